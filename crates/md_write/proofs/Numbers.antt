-- What stands in the stream of tables as numbers, and what these numbers are read as: the middle between the bytes of
-- the stream and the rows of a module.
use Rattle.std.proofs.Common.{◌≡◌, ℕ, suc, ◌+◌, ◌^◌, ◌<◌, true, if◌then◌else◌, List, [], ◌∷◌, length}
use Rattle.std.proofs.Common.{Option, Some, None, Result, Ok}
use Rattle.std.specs.Option.{option_map}
use Rattle.md_rows.specs.declared.cell.Cell.{Cell}
use Rattle.md_rows.specs.declared.fault.RowFault.{RowFault}
use Rattle.md_rows.specs.declared.layout.Layout.{Layout}
use Rattle.md_rows.specs.declared.row.Row.{Row}
use Rattle.md_rows.specs.declared.schema.Column.{Column}
use Rattle.md_rows.specs.declared.table.Table.{Table as RowTable}
use Rattle.md_rows.specs.Tables.{TableSchema, tables as schemas}
use Rattle.md_rows.specs.Cells.{StreamBytes, cell_of, with_cell}
use Rattle.md_rows.specs.Reading.{row_of, with_row, with_table, reading}
use Rattle.md_tables.specs.declared.module.Table.{Table}
use Rattle.md_tables.specs.declared.module.TableRow.{TableRow}
use Rattle.md_tables.specs.Modules.{is_module}
use Rattle.md_write.specs.declared.heaps.Heaps.{Heaps}
use Rattle.md_write.specs.Heaps.{heaps_of, own_cells, table_rows}
use Rattle.md_write.specs.Contents.{led_to, part_of, address_of, code_of, data_of}
use Rattle.md_write.specs.Rows.{cell_number, start_of}
use Rattle.md_write.specs.Stream.{strings_bytes, guids_bytes, blobs_bytes, layout_of, code_at, data_at, stream_of}
use Rattle.md_write.specs.Written.{first_too_many}

-- ---- written

-- a row: the address that it begins with, which is 0 where its table has none, and the number in each of its columns
pub record RowNumbers : Type 0 where
  pub address : ℕ
  pub numbers : List ℕ

abbrev pub cells_numbers : Heaps → List Column → List Cell → List ℕ
cells_numbers heaps [] cells = []
cells_numbers heaps (column ∷ columns) [] = []
cells_numbers heaps (column ∷ columns) (cell ∷ cells) =
    cell_number heaps column cell ∷ cells_numbers heaps columns cells

-- a row; what it leads to stands at an address
abbrev pub row_numbers : Heaps → TableSchema → ℕ → TableRow → RowNumbers
row_numbers heaps schema at row =
    record {
      address = if schema.has_address then address_of at (led_to schema.number row) else 0;
      numbers = cells_numbers heaps schema.columns (own_cells schema.number row);
    }

-- rows; what they lead to stands from an address on
abbrev pub rows_numbers : Heaps → TableSchema → ℕ → List TableRow → List RowNumbers
rows_numbers heaps schema at [] = []
rows_numbers heaps schema at (row ∷ rest) =
    row_numbers heaps schema at row
    ∷ rows_numbers heaps schema (at + length (part_of schema.number row)) rest

-- the rows of the table of a schema
abbrev pub table_numbers : List Table → TableSchema → List RowNumbers
table_numbers tables schema =
    rows_numbers (heaps_of tables) schema (start_of code_at (data_at tables) schema.number)
    (table_rows tables schema.number)

-- ---- read

-- the cells that the numbers of columns stand for; `front` has those of the row in front
abbrev pub numbered_cells : StreamBytes → Layout → List Column → List ℕ → List ℕ → Option (List Cell)
numbered_cells bytes layout [] front numbers = Some []
numbered_cells bytes layout (column ∷ columns) [] numbers = None
numbered_cells bytes layout (column ∷ columns) (first ∷ front) [] = None
numbered_cells bytes layout (column ∷ columns) (first ∷ front) (number ∷ numbers) =
    with_cell (cell_of bytes layout column first number) (numbered_cells bytes layout columns front numbers)

-- a row; one of a table that is only skipped has no cells
abbrev pub numbered_row : StreamBytes → Layout → TableSchema → List ℕ → RowNumbers → Option Row
numbered_row bytes layout schema front row =
    if schema.is_held then
    option_map (row_of row.address) (numbered_cells bytes layout schema.columns front row.numbers)
    else Some (row_of 0 [])

-- rows from a number on, behind one with these numbers
abbrev pub rows_behind : StreamBytes → Layout → TableSchema → List ℕ → ℕ → List RowNumbers → Result (List Row) RowFault
rows_behind bytes layout schema front number [] = Ok []
rows_behind bytes layout schema front number (row ∷ rest) =
    with_row schema number (numbered_row bytes layout schema front row)
    (rows_behind bytes layout schema row.numbers (suc number) rest)

-- the numbers of the first of rows, which is read as if it stood behind itself
abbrev pub first_numbers : List RowNumbers → List ℕ
first_numbers [] = []
first_numbers (row ∷ rest) = row.numbers

-- the rows of a table
abbrev pub numbered_rows : StreamBytes → Layout → TableSchema → List RowNumbers → Result (List Row) RowFault
numbered_rows bytes layout schema rows = rows_behind bytes layout schema (first_numbers rows) 0 rows

-- the tables of schemas
abbrev pub numbered_tables : StreamBytes → Layout → List Table → List TableSchema → Result (List RowTable) RowFault
numbered_tables bytes layout tables [] = Ok []
numbered_tables bytes layout tables (schema ∷ rest) =
    with_table schema (numbered_rows bytes layout schema (table_numbers tables schema))
    (numbered_tables bytes layout tables rest)

-- ---- the stream reads as these numbers

-- heaps whose indexes, and bodies and bytes of fields whose addresses have 32 bits
pub record IsSmall (tables : List Table) : Type 0 where
  pub strings : length (strings_bytes (heaps_of tables)) < 2 ^ 32
  pub guids : length (guids_bytes (heaps_of tables)) < 2 ^ 32
  pub blobs : length (blobs_bytes (heaps_of tables)) < 2 ^ 32
  pub addresses : code_at + length (code_of tables) + length (data_of tables) < 2 ^ 32

-- The tables of a stream that was written are read from its numbers alone, whatever heaps stand beside it. None is
-- refused, and none is cut.
abbrev pub StreamsRead : Type 0
StreamsRead =
    (tables : List Table) (bytes : StreamBytes) → is_module tables ≡ true → first_too_many tables ≡ None
    → IsSmall tables → bytes.tables ≡ stream_of tables
    → reading bytes ≡ numbered_tables bytes (layout_of tables) tables schemas
