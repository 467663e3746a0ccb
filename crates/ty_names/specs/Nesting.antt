-- What the rows of NestedClass say, one by one.
use Rattle.std.specs.Prelude.{ℕ, if◌then◌else◌, slice_get}
use Rattle.md_tables.specs.declared.module.TableRow.{TableRow}
use Rattle.ty_names.specs.Modules.{index_of}
use Rattle.ty_names.specs.Definitions.{is_nested_row}

-- what is known of the type around a type, where a row in front of the others says something of it, or not
abbrev pub noted : TableRow → ℕ → ℕ → ℕ
noted nested row known = if is_nested_row row nested then index_of (slice_get nested.cells 1) else known
