-- What stands in the columns of a row: ECMA-335 II.22 and II.24.2.6.
use Rattle.std.specs.Prelude.{ℕ, ◌+◌, ◌-◌, ◌/◌, ◌%◌, ◌^◌, ◌==◌, ◌&&◌, nat_le, if◌then◌else◌, List, [], ◌∷◌, ◌++◌}
use Rattle.std.specs.Prelude.{length}
use Rattle.std.specs.Prelude.{drop, slice_get, Option, Some, None}
use Rattle.std.specs.Option.{option_map, option_and_then}
use Rattle.std.specs.Str.{is_utf8}
use Rattle.md_heaps.specs.Heaps.{in_front_of_zero, blob as blob_in, guid as guid_in}
use Rattle.md_rows.specs.declared.cell.Cell.{Cell}
use Rattle.md_rows.specs.declared.cell.Cell.TheVariants.{Number, Name, Blob, Index, Coded}
use Rattle.md_rows.specs.declared.coding.Coding.{Coding}
use Rattle.md_rows.specs.declared.layout.Layout.{Layout}
use Rattle.md_rows.specs.declared.schema.Column.{Column}
use Rattle.md_rows.specs.declared.schema.Column.TheVariants.{U8, U16, U32, StringIndex, GuidIndex, BlobIndex}
use Rattle.md_rows.specs.declared.schema.Column.TheVariants.{RowIndex, RunIndex, CodedIndex}
use Rattle.md_rows.specs.declared.streams.Streams.{Streams}
use Rattle.md_rows.specs.Tables.{tag_bits, tag_tables, is_skipped}
use Rattle.md_rows.specs.Widths.{number_at, rows_of, column_size}

-- the bytes of the stream of tables and of the heaps
pub record StreamBytes : Type 0 where
  pub tables : List ℕ
  pub strings : List ℕ
  pub guid : List ℕ
  pub blob : List ℕ

abbrev pub bytes_of : Streams → StreamBytes
bytes_of streams =
    record {
      tables = streams.tables.now;
      strings = streams.strings.now;
      guid = streams.guid.now;
      blob = streams.blob.now;
    }

-- the name at an index of the heap of strings; index 0 of an empty heap is the empty name
abbrev pub if_text : List ℕ → Option (List ℕ)
if_text bytes = if is_utf8 bytes then Some bytes else None

abbrev pub text_at : List ℕ → ℕ → Option (List ℕ)
text_at heap at = option_and_then if_text (in_front_of_zero (drop at heap))

abbrev pub name_of : List ℕ → ℕ → Option (List ℕ)
name_of heap at = if at == 0 && length heap == 0 then Some [] else text_at heap at

-- the blob at an index of its heap; index 0 of an empty heap is the empty blob
abbrev pub blob_of : List ℕ → ℕ → Option (List ℕ)
blob_of heap at = if at == 0 && length heap == 0 then Some [] else blob_in (drop at heap)

-- an index that lies between two numbers
abbrev pub index_cell : ℕ → ℕ → ℕ → Option Cell
index_cell least most index = if nat_le least index && nat_le index most then Some (Index index) else None

-- a row of the table of a tag; of a table that is only skipped, row 0
abbrev pub row_of_table : Layout → ℕ → ℕ → Option Cell
row_of_table layout row table =
    if nat_le row (rows_of layout table) then Some (Coded table (if is_skipped table then 0 else row)) else None

abbrev pub row_of_tag : Layout → ℕ → Option (Option ℕ) → Option Cell
row_of_tag layout row None = None
row_of_tag layout row (Some None) = None
row_of_tag layout row (Some (Some table)) = row_of_table layout row table

abbrev pub coded_cell : Layout → Coding → ℕ → Option Cell
coded_cell layout coding index =
    row_of_tag layout (index / 2 ^ tag_bits coding) (slice_get (tag_tables coding) (index % 2 ^ tag_bits coding))

-- What a column holds whose number is `value`, or nothing where it is bad. The first row of a run is at least `least`,
-- and may be the one behind the table's last.
abbrev pub cell_of : StreamBytes → Layout → Column → ℕ → ℕ → Option Cell
cell_of bytes layout U8 least value = Some (Number value)
cell_of bytes layout U16 least value = Some (Number value)
cell_of bytes layout U32 least value = Some (Number value)
cell_of bytes layout StringIndex least value = option_map Name (name_of bytes.strings value)
cell_of bytes layout GuidIndex least value = option_map Blob (guid_in bytes.guid value)
cell_of bytes layout BlobIndex least value = option_map Blob (blob_of bytes.blob value)
cell_of bytes layout (RowIndex table) least value = index_cell 0 (rows_of layout table) value
cell_of bytes layout (RunIndex table) least value = index_cell least (rows_of layout table + 1) value
cell_of bytes layout (CodedIndex coding) least value = coded_cell layout coding value

-- The cell of the column that stands at a place. The row in front of its own stands `back` bytes before, which is 0 for
-- a first row: a run begins no earlier than that of the row in front.
abbrev pub cell_at : StreamBytes → Layout → Column → ℕ → ℕ → Option Cell
cell_at bytes layout column at back =
    cell_of bytes layout column (number_at bytes.tables (column_size layout column) (at - back))
    (number_at bytes.tables (column_size layout column) at)

-- cells in front of others, if there are others
abbrev pub before : {A : Type 0} → List A → Option (List A) → Option (List A)
before done None = None
before done (Some cells) = Some (done ++ cells)

abbrev pub with_cell : Option Cell → Option (List Cell) → Option (List Cell)
with_cell None rest = None
with_cell (Some cell) rest = before (cell ∷ []) rest

-- the cells of columns, one behind another from a place on
abbrev pub cells_at : StreamBytes → Layout → List Column → ℕ → ℕ → Option (List Cell)
cells_at bytes layout [] at back = Some []
cells_at bytes layout (column ∷ rest) at back =
    with_cell (cell_at bytes layout column at back)
    (cells_at bytes layout rest (at + column_size layout column) back)
