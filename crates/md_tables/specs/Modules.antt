-- A module, and what holds of its tables: ECMA-335 II.22 and II.25.4.
use Rattle.std.specs.Prelude.{ℕ, ◌==◌, ◌&&◌, Bool, true, false, if◌then◌else◌, List, [], ◌∷◌, length, map, find}
use Rattle.std.specs.Prelude.{Option, Some, None}
use Rattle.std.specs.List.{list_all}
use Rattle.std.specs.Option.{option_map}
use Rattle.il_code.specs.Headers.{body_length}
use Rattle.md_rows.specs.declared.schema.Column.{Column}
use Rattle.md_rows.specs.declared.schema.Column.TheVariants.{BlobIndex}
use Rattle.md_rows.specs.Tables.{TableSchema}
use Rattle.md_rows.specs.Widths.{or_zero}
use Rattle.md_rows.specs.Fits.{are_cells, rise, first_row, held_tables}
use Rattle.md_tables.specs.declared.module.TableRow.{TableRow}
use Rattle.md_tables.specs.declared.module.Table.{Table}

-- What a module is seen as: its entry token, its heap of user strings, and its tables.
pub record ModuleParts : Type 0 where
  pub entry : ℕ
  pub user : List ℕ
  pub tables : List Table

-- how many rows the table of a number has; one that isn't there has none
abbrev pub rows_in : List Table → ℕ → ℕ
rows_in tables number =
    or_zero (option_map (λ (table : Table). length table.rows) (find (λ table. table.number == number) tables))

-- the columns that the cells of a row stand in: those of the bytes of fields begin with these bytes
abbrev pub columns_of : TableSchema → List Column
columns_of schema = if schema.number == 0x1D then BlobIndex ∷ schema.columns else schema.columns

abbrev pub is_length : ℕ → Option ℕ → Bool
is_length count None = false
is_length count (Some length) = length == count

-- A method may have a body, and no other row has one. A body has as many bytes as its header and its sections tell.
abbrev pub is_body : ℕ → Option (List ℕ) → Bool
is_body number None = true
is_body number (Some body) = number == 0x06 && is_length (length body) (body_length body)

abbrev pub is_row : (ℕ → ℕ) → TableSchema → TableRow → Bool
is_row rows schema row = are_cells rows (columns_of schema) row.cells && is_body schema.number row.body

-- each row is one, and no run begins earlier than that of the row in front
abbrev pub is_table : (ℕ → ℕ) → TableSchema → Table → Bool
is_table rows schema table =
    table.number == schema.number
    && (list_all (is_row rows schema) table.rows
    && rise (columns_of schema) (first_row (map (λ row. row.cells) table.rows)) (map (λ row. row.cells) table.rows))

abbrev pub are_tables : (ℕ → ℕ) → List TableSchema → List Table → Bool
are_tables rows [] [] = true
are_tables rows (schema ∷ schemas) (table ∷ tables) = is_table rows schema table && are_tables rows schemas tables
are_tables rows schemas tables = false

-- The tables of a module: each that is held, in the order of their numbers, with rows whose cells its columns may hold.
unfoldable pub is_module : List Table → Bool
is_module tables = are_tables (rows_in tables) held_tables tables
