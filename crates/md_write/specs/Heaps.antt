-- The heaps of a module as they are written: ECMA-335 II.24.2.3 to II.24.2.5.
use Rattle.std.specs.Prelude.{ℕ, ◌^◌, ◌==◌, Bool, true, nat_lt, List, [], ◌∷◌, length, drop, fold, find, Option, Some}
use Rattle.std.specs.Prelude.{None, if◌then◌else◌}
use Rattle.std.specs.List.{list_all}
use Rattle.md_rows.specs.declared.cell.Cell.{Cell}
use Rattle.md_rows.specs.declared.cell.Cell.TheVariants.{Number, Name, Blob, Index, Coded}
use Rattle.md_rows.specs.declared.schema.Column.{Column}
use Rattle.md_rows.specs.declared.schema.Column.TheVariants.{U8, U16, U32, StringIndex, GuidIndex, BlobIndex}
use Rattle.md_rows.specs.declared.schema.Column.TheVariants.{RowIndex, RunIndex, CodedIndex}
use Rattle.md_rows.specs.Tables.{TableSchema, tables as schemas}
use Rattle.md_tables.specs.declared.module.Table.{Table}
use Rattle.md_tables.specs.declared.module.TableRow.{TableRow}
use Rattle.md_write.specs.declared.heaps.Heaps.{Heaps}
use Rattle.md_write.specs.declared.kind.HeapKind.TheVariants.{Strings, Guids, Blobs}
use Rattle.md_write.specs.Heap.{with_item, first_heap}

abbrev pub first_heaps : Heaps
first_heaps = record { strings = first_heap Strings; guids = first_heap Guids; blobs = first_heap Blobs }

-- the heaps with the bytes of a column of GUIDs or of blobs
abbrev pub with_bytes : Heaps → Column → List ℕ → Heaps
with_bytes heaps U8 bytes = heaps
with_bytes heaps U16 bytes = heaps
with_bytes heaps U32 bytes = heaps
with_bytes heaps StringIndex bytes = heaps
with_bytes heaps GuidIndex bytes = record heaps { guids = with_item heaps.guids bytes }
with_bytes heaps BlobIndex bytes = record heaps { blobs = with_item heaps.blobs bytes }
with_bytes heaps (RowIndex table) bytes = heaps
with_bytes heaps (RunIndex table) bytes = heaps
with_bytes heaps (CodedIndex coding) bytes = heaps

-- the heaps with what a column holds
abbrev pub with_cell : Heaps → Column → Cell → Heaps
with_cell heaps column (Number number) = heaps
with_cell heaps column (Name text) = record heaps { strings = with_item heaps.strings text }
with_cell heaps column (Blob bytes) = with_bytes heaps column bytes
with_cell heaps column (Index row) = heaps
with_cell heaps column (Coded table row) = heaps

-- the heaps with what columns hold, one cell for each
abbrev pub with_cells : Heaps → List Column → List Cell → Heaps
with_cells heaps [] cells = heaps
with_cells heaps (column ∷ columns) [] = heaps
with_cells heaps (column ∷ columns) (cell ∷ cells) = with_cells (with_cell heaps column cell) columns cells

-- the cells of a row that stand in columns of its own; the first cell of a row of FieldRVA has a field's bytes, which
-- stand elsewhere
abbrev pub own_cells : ℕ → TableRow → List Cell
own_cells number row = if number == 0x1D then drop 1 row.cells else row.cells

abbrev pub with_row : TableSchema → Heaps → TableRow → Heaps
with_row schema heaps row = with_cells heaps schema.columns (own_cells schema.number row)

abbrev pub with_rows : TableSchema → Heaps → List TableRow → Heaps
with_rows schema heaps rows = fold (with_row schema) heaps rows

-- the rows of the table of a number, if there is one
abbrev pub rows_or_none : Option Table → List TableRow
rows_or_none None = []
rows_or_none (Some table) = table.rows

abbrev pub table_rows : List Table → ℕ → List TableRow
table_rows tables number = rows_or_none (find (λ table. table.number == number) tables)

abbrev pub with_table : List Table → Heaps → TableSchema → Heaps
with_table tables heaps schema = with_rows schema heaps (table_rows tables schema.number)

-- the heaps of a module's tables: what is seen first stands first
unfoldable pub heaps_of : List Table → Heaps
heaps_of tables = fold (with_table tables) first_heaps schemas

-- ---- what heaps can hold

-- a compressed number tells how long a blob is, and there is none from 2 ^ 29 on (II.23.2)
abbrev pub is_short : Cell → Bool
is_short (Number number) = true
is_short (Name text) = true
is_short (Blob bytes) = nat_lt (length bytes) (2 ^ 29)
is_short (Index row) = true
is_short (Coded table row) = true

abbrev pub has_short_cells : ℕ → TableRow → Bool
has_short_cells number row = list_all is_short (own_cells number row)

abbrev pub has_short_rows : Table → Bool
has_short_rows table = list_all (has_short_cells table.number) table.rows

-- each blob of the tables can be told
abbrev pub are_short : List Table → Bool
are_short tables = list_all has_short_rows tables
