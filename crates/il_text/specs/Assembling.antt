-- What a text means: the rows that were read as the tables of a module, or the first column that no module has.
use Rattle.std.specs.Prelude.{ℕ, ◌==◌, ◌&&◌, Bool, true, if◌then◌else◌, List, [], ◌∷◌, ◌++◌, map, drop, Option, Some}
use Rattle.std.specs.Prelude.{None, Result, Ok, Err}
use Rattle.std.specs.List.{filter}
use Rattle.std.specs.Option.{option_map, option_or, option_to_list}
use Rattle.md_rows.specs.declared.cell.Cell.{Cell}
use Rattle.md_rows.specs.declared.cell.Cell.TheVariants.{Number as NumberCell, Name as NameCell, Blob as BlobCell}
use Rattle.md_rows.specs.declared.cell.Cell.TheVariants.{Index as IndexCell, Coded as CodedCell}
use Rattle.md_rows.specs.declared.schema.Column.{Column}
use Rattle.md_rows.specs.Tables.{TableSchema}
use Rattle.md_rows.specs.Widths.{or_zero}
use Rattle.md_rows.specs.Fits.{is_cell, is_behind, held_tables}
use Rattle.md_tables.specs.declared.module.TableRow.{TableRow}
use Rattle.md_tables.specs.declared.module.Table.{Table}
use Rattle.md_tables.specs.Modules.{ModuleParts, columns_of, rows_in}
use Rattle.il_text.specs.declared.fault.IlTextFault.{IlTextFault}
use Rattle.il_text.specs.declared.fault.IlTextFault.TheVariants.{BadText}
use Rattle.il_text.specs.declared.draft.Value.{Value}
use Rattle.il_text.specs.declared.draft.Value.TheVariants.{Number, Name, Blob, Index, Coded}
use Rattle.il_text.specs.declared.draft.DraftCell.{DraftCell}
use Rattle.il_text.specs.declared.draft.DraftRow.{DraftRow}
use Rattle.il_text.specs.declared.draft.Draft.{Draft}
use Rattle.il_text.specs.Reading.{read_text, ◌>>=◌}

-- ---- tables

-- the cell that a value is
abbrev pub cell_of : Value → Cell
cell_of (Number number) = NumberCell number
cell_of (Name bytes) = NameCell bytes
cell_of (Blob bytes) = BlobCell bytes
cell_of (Index row) = IndexCell row
cell_of (Coded table row) = CodedCell table row

abbrev pub table_row : DraftRow → TableRow
table_row row = record { cells = map (λ (cell : DraftCell). cell_of cell.value) row.cells; body = row.body }

-- the rows of a table, in their order
abbrev pub rows_of_table : List DraftRow → ℕ → List DraftRow
rows_of_table rows number = filter (λ (row : DraftRow). row.table == number) rows

abbrev pub table_of : List DraftRow → TableSchema → Table
table_of rows schema = record { number = schema.number; rows = map table_row (rows_of_table rows schema.number) }

-- each table that is held, with its rows
abbrev pub tables_of : List DraftRow → List Table
tables_of rows = map (table_of rows) held_tables

-- ---- wrong columns

-- a run begins no earlier than that of the row in front, if there is one
abbrev pub is_behind_first : Column → List DraftCell → Cell → Bool
is_behind_first column [] cell = true
is_behind_first column (first ∷ front) cell = is_behind column (cell_of first.value) cell

-- a cell that its column may hold, behind the cells of the row in front from this column on
abbrev pub is_right : (ℕ → ℕ) → Column → List DraftCell → Cell → Bool
is_right rows column front cell = is_cell rows column cell && is_behind_first column front cell

-- the column of the line at which the first wrong one of cells stands
abbrev pub wrong_cell : (ℕ → ℕ) → List Column → List DraftCell → List DraftCell → Option ℕ
wrong_cell rows [] front cells = None
wrong_cell rows (column ∷ columns) front [] = None
wrong_cell rows (column ∷ columns) front (cell ∷ cells) =
    if is_right rows column front (cell_of cell.value) then wrong_cell rows columns (drop 1 front) cells
    else Some cell.column

-- a line and a column of it
abbrev pub at_line : ℕ → ℕ → ℕ × ℕ
at_line line column = (line, column)

-- the line and the column of the first wrong cell of rows, behind the cells of the row in front
abbrev pub wrong_row : (ℕ → ℕ) → List Column → List DraftCell → List DraftRow → Option (ℕ × ℕ)
wrong_row rows columns front [] = None
wrong_row rows columns front (row ∷ rest) =
    option_or (option_map (at_line row.line) (wrong_cell rows columns front row.cells))
    (wrong_row rows columns row.cells rest)

abbrev pub wrong_in_table : List DraftRow → TableSchema → Option (ℕ × ℕ)
wrong_in_table rows schema =
    wrong_row (rows_in (tables_of rows)) (columns_of schema) [] (rows_of_table rows schema.number)

abbrev pub wrong_in_tables : List DraftRow → List TableSchema → Option (ℕ × ℕ)
wrong_in_tables rows [] = None
wrong_in_tables rows (schema ∷ schemas) = option_or (wrong_in_table rows schema) (wrong_in_tables rows schemas)

-- The line and the column of the first wrong cell of a text: rows of a table stand behind those of each lower one.
abbrev pub first_wrong : List DraftRow → Option (ℕ × ℕ)
first_wrong rows = wrong_in_tables rows held_tables

-- ---- the module

abbrev pub module_parts : ℕ → List ℕ → List Table → ModuleParts
module_parts entry user tables = record { entry = entry; user = user; tables = tables }

abbrev pub all_rows : Draft → List DraftRow
all_rows draft = draft.rows ++ option_to_list draft.row

abbrev pub or_empty : Option (List ℕ) → List ℕ
or_empty None = []
or_empty (Some bytes) = bytes

abbrev pub parts_of_draft : Draft → ModuleParts
parts_of_draft draft =
    module_parts (or_zero draft.entry) (or_empty draft.user) (tables_of (all_rows draft))

abbrev pub unless_wrong : ModuleParts → Option (ℕ × ℕ) → Result ModuleParts IlTextFault
unless_wrong m None = Ok m
unless_wrong m (Some place) = Err (BadText place.0 place.1)

abbrev pub module_of : Draft → Result ModuleParts IlTextFault
module_of draft = unless_wrong (parts_of_draft draft) (first_wrong (all_rows draft))

-- The module that a text means, or the fault of the text: a wrong column is looked for last.
unfoldable pub assembled : List ℕ → Result ModuleParts IlTextFault
assembled text = read_text text >>= module_of
