-- The tables that the classes make are those of a module.
use Rattle.std.proofs.Common.{◌≡◌, ◌∙◌, List, true, ap, refl}
use Rattle.std.specs.Str.{chars, is_utf8}
use lib.Utf8.{encode}
use Rattle.md_rows.specs.Tables.{tables, is_skipped}
use Rattle.md_rows.specs.Fits.{held_tables}
use Rattle.md_tables.specs.declared.module.Table.{Table}
use Rattle.md_tables.specs.Modules.{is_module}
use Rattle.core_lib.specs.Classes.{classes, instances, local_lists, texts}
use Rattle.core_lib.specs.Rows.{tables_of}

pub fit : is_module (tables_of classes) ≡ true
unfolding tables is_skipped held_tables is_module classes instances local_lists texts chars is_utf8 encode
fit = refl

pub fit_by : (made : List Table) → made ≡ tables_of classes → is_module made ≡ true
fit_by made same = ap is_module same ∙ fit
