-- The rows of tables as they are written: ECMA-335 II.22 and II.24.2.6.
use Rattle.std.specs.Prelude.{ℕ, ◌+◌, ◌*◌, ◌^◌, ◌==◌, Bool, false, List, [], ◌∷◌, ◌++◌, length, position, Option, Some}
use Rattle.std.specs.Prelude.{None, if◌then◌else◌}
use Rattle.byteorder.specs.Endian.{little_bytes}
use Rattle.md_rows.specs.declared.cell.Cell.{Cell}
use Rattle.md_rows.specs.declared.cell.Cell.TheVariants.{Number, Name, Blob, Index, Coded}
use Rattle.md_rows.specs.declared.coding.Coding.{Coding}
use Rattle.md_rows.specs.declared.layout.Layout.{Layout}
use Rattle.md_rows.specs.declared.schema.Column.{Column}
use Rattle.md_rows.specs.declared.schema.Column.TheVariants.{U8, U16, U32, StringIndex, GuidIndex, BlobIndex}
use Rattle.md_rows.specs.declared.schema.Column.TheVariants.{RowIndex, RunIndex, CodedIndex}
use Rattle.md_rows.specs.Tables.{TableSchema, tag_bits, tag_tables}
use Rattle.md_rows.specs.Widths.{or_zero, column_size}
use Rattle.md_tables.specs.declared.module.Table.{Table}
use Rattle.md_tables.specs.declared.module.TableRow.{TableRow}
use Rattle.md_write.specs.declared.heaps.Heaps.{Heaps}
use Rattle.md_write.specs.Heap.{index_of}
use Rattle.md_write.specs.Heaps.{own_cells, table_rows}
use Rattle.md_write.specs.Contents.{led_to, part_of, address_of}

-- ---- the number of a cell

abbrev pub bytes_index : Heaps → Column → List ℕ → ℕ
bytes_index heaps U8 bytes = 0
bytes_index heaps U16 bytes = 0
bytes_index heaps U32 bytes = 0
bytes_index heaps StringIndex bytes = 0
bytes_index heaps GuidIndex bytes = index_of heaps.guids bytes
bytes_index heaps BlobIndex bytes = index_of heaps.blobs bytes
bytes_index heaps (RowIndex table) bytes = 0
bytes_index heaps (RunIndex table) bytes = 0
bytes_index heaps (CodedIndex coding) bytes = 0

-- the tag of a table
abbrev pub names : ℕ → Option ℕ → Bool
names table None = false
names table (Some other) = other == table

abbrev pub tag_of : Coding → ℕ → ℕ
tag_of coding table = or_zero (position (names table) (tag_tables coding))

-- a row of a table, with the table's tag in the low bits
abbrev pub coded_number : Coding → ℕ → ℕ → ℕ
coded_number coding table row = row * 2 ^ tag_bits coding + tag_of coding table

abbrev pub coded_index : Column → ℕ → ℕ → ℕ
coded_index U8 table row = 0
coded_index U16 table row = 0
coded_index U32 table row = 0
coded_index StringIndex table row = 0
coded_index GuidIndex table row = 0
coded_index BlobIndex table row = 0
coded_index (RowIndex other) table row = 0
coded_index (RunIndex other) table row = 0
coded_index (CodedIndex coding) table row = coded_number coding table row

-- the number that stands in a column for what it holds
abbrev pub cell_number : Heaps → Column → Cell → ℕ
cell_number heaps column (Number number) = number
cell_number heaps column (Name text) = index_of heaps.strings text
cell_number heaps column (Blob bytes) = bytes_index heaps column bytes
cell_number heaps column (Index row) = row
cell_number heaps column (Coded table row) = coded_index column table row

-- ---- rows

-- the bytes of columns, one cell for each
abbrev pub cells_bytes : Heaps → Layout → List Column → List Cell → List ℕ
cells_bytes heaps layout [] cells = []
cells_bytes heaps layout (column ∷ columns) [] = []
cells_bytes heaps layout (column ∷ columns) (cell ∷ cells) =
    little_bytes (column_size layout column) (cell_number heaps column cell)
    ++ cells_bytes heaps layout columns cells

-- the address that a row may begin with
abbrev pub address_bytes : TableSchema → ℕ → TableRow → List ℕ
address_bytes schema at row =
    if schema.has_address then little_bytes 4 (address_of at (led_to schema.number row)) else []

-- a row; what it leads to stands at an address
abbrev pub row_bytes : Heaps → Layout → TableSchema → ℕ → TableRow → List ℕ
row_bytes heaps layout schema at row =
    address_bytes schema at row ++ cells_bytes heaps layout schema.columns (own_cells schema.number row)

-- rows; what they lead to stands from an address on
abbrev pub rows_bytes : Heaps → Layout → TableSchema → ℕ → List TableRow → List ℕ
rows_bytes heaps layout schema at [] = []
rows_bytes heaps layout schema at (row ∷ rest) =
    row_bytes heaps layout schema at row
    ++ rows_bytes heaps layout schema (at + length (part_of schema.number row)) rest

-- the address of the first body, and that of the bytes of the first field
abbrev pub start_of : ℕ → ℕ → ℕ → ℕ
start_of code_at data_at number = if number == 0x06 then code_at else data_at

-- the rows of all tables of a list, one table behind another
abbrev pub tables_bytes : Heaps → Layout → ℕ → ℕ → List Table → List TableSchema → List ℕ
tables_bytes heaps layout code_at data_at tables [] = []
tables_bytes heaps layout code_at data_at tables (schema ∷ rest) =
    rows_bytes heaps layout schema (start_of code_at data_at schema.number) (table_rows tables schema.number)
    ++ tables_bytes heaps layout code_at data_at tables rest
