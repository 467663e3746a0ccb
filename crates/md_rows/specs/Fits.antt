-- What the cells of rows may be, where `rows` tells how many rows each table has: ECMA-335 II.22 and II.24.2.
use Rattle.std.specs.Prelude.{◌≡◌, ℕ, ◌+◌, ◌<◌, ◌==◌, ◌&&◌, ◌||◌, Bool, true, false, not, nat_le, nat_lt}
use Rattle.std.specs.Prelude.{if◌then◌else◌, List, [], ◌∷◌, length, map, find, All, Option, Some, None}
use Rattle.std.specs.List.{list_any, list_all, filter}
use Rattle.std.specs.Option.{option_map}
use Rattle.std.specs.Str.{is_utf8}
use Rattle.md_rows.specs.declared.cell.Cell.{Cell}
use Rattle.md_rows.specs.declared.cell.Cell.TheVariants.{Number, Name, Blob, Index, Coded}
use Rattle.md_rows.specs.declared.coding.Coding.{Coding}
use Rattle.md_rows.specs.declared.layout.Layout.{Layout}
use Rattle.md_rows.specs.declared.schema.Column.{Column}
use Rattle.md_rows.specs.declared.schema.Column.TheVariants.{U8, U16, U32, StringIndex, GuidIndex, BlobIndex}
use Rattle.md_rows.specs.declared.schema.Column.TheVariants.{RowIndex, RunIndex, CodedIndex}
use Rattle.md_rows.specs.declared.table.Table.{Table}
use Rattle.md_rows.specs.Tables.{TableSchema, tables, tag_tables, is_skipped}
use Rattle.md_rows.specs.Widths.{rows_of, or_zero}
use Rattle.md_rows.specs.Cells.{StreamBytes, cell_at}

-- ---- the cell of a column

-- a number below another
abbrev pub is_number : ℕ → Cell → Bool
is_number most (Number number) = nat_lt number most
is_number most cell = false

-- a name: UTF-8 without a zero byte
abbrev pub is_name : Cell → Bool
is_name (Name text) = is_utf8 text && list_all (λ byte. not (byte == 0)) text
is_name cell = false

-- the 16 bytes of a GUID, or none
abbrev pub is_guid : Cell → Bool
is_guid (Blob bytes) = length bytes == 0 || length bytes == 16
is_guid cell = false

abbrev pub is_blob : Cell → Bool
is_blob (Blob bytes) = true
is_blob cell = false

-- a row of a table of so many, or 0
abbrev pub is_row : ℕ → Cell → Bool
is_row count (Index row) = nat_le row count
is_row count cell = false

-- The first row of a run of a table of so many rows, which may be the one behind the last; not so of a table of 65,535
-- rows, since the indexes of its rows have two bytes.
abbrev pub is_run : ℕ → Cell → Bool
is_run count (Index row) = nat_le row (count + 1) && not (count == 0xFFFF && row == 0x1_0000)
is_run count cell = false

abbrev pub names : ℕ → Option ℕ → Bool
names table None = false
names table (Some other) = other == table

-- a row of a table that a tag names, or 0; of a table that is only skipped it is 0
abbrev pub is_coded : (ℕ → ℕ) → Coding → Cell → Bool
is_coded rows coding (Coded table row) =
    list_any (names table) (tag_tables coding)
    && (if is_skipped table then row == 0 else nat_le row (rows table))
is_coded rows coding cell = false

-- a cell that the column may hold
abbrev pub is_cell : (ℕ → ℕ) → Column → Cell → Bool
is_cell rows U8 cell = is_number 0x100 cell
is_cell rows U16 cell = is_number 0x1_0000 cell
is_cell rows U32 cell = is_number 0x1_0000_0000 cell
is_cell rows StringIndex cell = is_name cell
is_cell rows GuidIndex cell = is_guid cell
is_cell rows BlobIndex cell = is_blob cell
is_cell rows (RowIndex table) cell = is_row (rows table) cell
is_cell rows (RunIndex table) cell = is_run (rows table) cell
is_cell rows (CodedIndex coding) cell = is_coded rows coding cell

-- Each cell that stands in a column of bytes is one that the column may hold.
abbrev pub CellsFitTheirColumns : Type 0
CellsFitTheirColumns =
    (bytes : StreamBytes) (layout : Layout) (column : Column) (at back : ℕ) (cell : Cell)
    → All (λ byte. byte < 256) bytes.tables → cell_at bytes layout column at back ≡ Some cell
    → is_cell (rows_of layout) column cell ≡ true

-- ---- rows

-- one cell for each column
abbrev pub are_cells : (ℕ → ℕ) → List Column → List Cell → Bool
are_cells rows [] [] = true
are_cells rows (column ∷ columns) (cell ∷ cells) = is_cell rows column cell && are_cells rows columns cells
are_cells rows columns cells = false

-- a run begins no earlier than that of the row in front
abbrev pub is_behind : Column → Cell → Cell → Bool
is_behind (RunIndex table) (Index front) (Index row) = nat_le front row
is_behind column front cell = true

abbrev pub are_behind : List Column → List Cell → List Cell → Bool
are_behind (column ∷ columns) (first ∷ front) (cell ∷ cells) =
    is_behind column first cell && are_behind columns front cells
are_behind columns front cells = true

-- no run begins earlier than that of the row in front, from a row on
abbrev pub rise : List Column → List Cell → List (List Cell) → Bool
rise columns front [] = true
rise columns front (row ∷ rest) = are_behind columns front row && rise columns row rest

-- the first of rows, which has none in front
abbrev pub first_row : List (List Cell) → List Cell
first_row [] = []
first_row (row ∷ rest) = row

-- the rows of a table with these columns
abbrev pub are_rows : (ℕ → ℕ) → List Column → List (List Cell) → Bool
are_rows rows columns all = list_all (are_cells rows columns) all && rise columns (first_row all) all

-- ---- tables

-- the tables whose rows are held
unfoldable pub held_tables : List TableSchema
held_tables = filter (λ schema. schema.is_held) tables

-- how many rows the table of a number has; one that isn't there has none
abbrev pub rows_among : List Table → ℕ → ℕ
rows_among held number =
    or_zero (option_map (λ (table : Table). length table.rows) (find (λ table. table.number == number) held))

abbrev pub is_table : (ℕ → ℕ) → TableSchema → Table → Bool
is_table rows schema table =
    table.number == schema.number && are_rows rows schema.columns (map (λ row. row.cells) table.rows)

abbrev pub are_tables : (ℕ → ℕ) → List TableSchema → List Table → Bool
are_tables rows [] [] = true
are_tables rows (schema ∷ schemas) (table ∷ held) = is_table rows schema table && are_tables rows schemas held
are_tables rows schemas held = false

-- Tables that fit together: each that is held, in the order of their numbers, with rows of cells that its columns may
-- hold.
abbrev pub fit_together : List Table → Bool
fit_together held = are_tables (rows_among held) held_tables held
