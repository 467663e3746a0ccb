-- The header of the stream of tables, and from it alone how wide columns are and where rows stand: ECMA-335 II.24.2.6.
use Rattle.std.specs.Prelude.{ℕ, zero, suc, ◌+◌, ◌-◌, ◌*◌, ◌/◌, ◌%◌, ◌^◌, ◌==◌, ◌||◌, ◌&&◌, Bool, nat_le, nat_lt}
use Rattle.std.specs.Prelude.{if◌then◌else◌, List, [], ◌∷◌, length, drop, map, slice_get, slice_index, Option, Some}
use Rattle.std.specs.Prelude.{None}
use Rattle.std.specs.List.{list_any, range_with_len}
use Rattle.byteorder.specs.Endian.{little_number}
use Rattle.md_rows.specs.declared.coding.Coding.{Coding}
use Rattle.md_rows.specs.declared.layout.Layout.{Layout}
use Rattle.md_rows.specs.declared.schema.Column.{Column}
use Rattle.md_rows.specs.declared.schema.Column.TheVariants.{U8, U16, U32, StringIndex, GuidIndex, BlobIndex}
use Rattle.md_rows.specs.declared.schema.Column.TheVariants.{RowIndex, RunIndex, CodedIndex}
use Rattle.md_rows.specs.declared.width.Width.{Width}
use Rattle.md_rows.specs.declared.width.Width.TheVariants.{One, Two, Four}
use Rattle.md_rows.specs.Tables.{TableSchema, tag_bits, tag_tables}

-- the number in so many bytes at a place, the lowest first
abbrev pub number_at : List ℕ → ℕ → ℕ → ℕ
number_at bytes size at = little_number size (drop at bytes)

-- so many bytes at a place are there
abbrev pub fits : List ℕ → ℕ → ℕ → Bool
fits bytes at size = nat_le (at + size) (length bytes)

-- ---- the header: HeapSizes at 6, Valid at 8, and behind 24 bytes a number of rows for each table that there is

-- a bit for each table that there is
abbrev pub valid : List ℕ → ℕ
valid stream = number_at stream 8 8

abbrev pub has_table : ℕ → ℕ → Bool
has_table mask table = mask / 2 ^ table % 2 == 1

-- how many tables there are below a number
unfoldable pub tables_below : ℕ → ℕ → ℕ
tables_below mask zero = 0
tables_below mask (suc table) = tables_below mask table + (if has_table mask table then 1 else 0)

-- how many rows a table has
abbrev pub row_count : List ℕ → ℕ → ℕ
row_count stream table =
    if has_table (valid stream) table then number_at stream 4 (24 + 4 * tables_below (valid stream) table) else 0

unfoldable pub row_counts : List ℕ → List ℕ
row_counts stream = map (row_count stream) (range_with_len 0 64)

-- where the rows begin
abbrev pub rows_place : List ℕ → ℕ
rows_place stream = 24 + 4 * tables_below (valid stream) 64

-- bits 1, 2 and 4 of HeapSizes say that indexes into the heaps of strings, GUIDs and blobs have four bytes
abbrev pub heap_bit : List ℕ → ℕ → Bool
heap_bit stream bit = slice_index stream 6 / bit % 2 == 1

abbrev pub layout_in : List ℕ → Layout
layout_in stream =
    record {
      rows = row_counts stream;
      place = rows_place stream;
      wide_strings = heap_bit stream 1;
      wide_guids = heap_bit stream 2;
      wide_blobs = heap_bit stream 4;
    }

-- what the header says, where it is whole
abbrev pub layout_of : List ℕ → Option Layout
layout_of stream = if fits stream 0 24 && fits stream 0 (rows_place stream) then Some (layout_in stream) else None

-- the tables of unoptimized metadata and of debugging, and what is no table
abbrev pub is_refused : ℕ → Bool
is_refused table =
    nat_lt 0x2C table || table == 0x03 || table == 0x05 || table == 0x07 || table == 0x13 || table == 0x16
    || table == 0x1E || table == 0x1F

-- the least table from a number on that there is and that is refused, among so many
unfoldable pub refused_from : ℕ → ℕ → ℕ → Option ℕ
refused_from mask zero table = None
refused_from mask (suc left) table =
    if has_table mask table && is_refused table then Some table else refused_from mask left (suc table)

unfoldable pub first_refused : ℕ → Option ℕ
first_refused mask = refused_from mask 64 0

-- ---- how wide columns are

abbrev pub size_of : Width → ℕ
size_of One = 1
size_of Two = 2
size_of Four = 4

abbrev pub wide_if : Bool → Width
wide_if wide = if wide then Four else Two

-- the rows of a table; one that isn't there has none
abbrev pub or_zero : Option ℕ → ℕ
or_zero None = 0
or_zero (Some n) = n

abbrev pub rows_of : Layout → ℕ → ℕ
rows_of layout table = or_zero (slice_get layout.rows table)

-- the rows of the table of a tag
abbrev pub tag_rows : Layout → Option ℕ → ℕ
tag_rows layout None = 0
tag_rows layout (Some table) = rows_of layout table

-- whether a table of a coded index has more rows than fit two bytes beside the tag
abbrev pub is_wide_coding : Layout → Coding → Bool
is_wide_coding layout coding =
    list_any (λ table. nat_le (2 ^ (16 - tag_bits coding)) (tag_rows layout table)) (tag_tables coding)

abbrev pub width : Layout → Column → Width
width layout U8 = One
width layout U16 = Two
width layout U32 = Four
width layout StringIndex = wide_if layout.wide_strings
width layout GuidIndex = wide_if layout.wide_guids
width layout BlobIndex = wide_if layout.wide_blobs
width layout (RowIndex table) = wide_if (nat_le (2 ^ 16) (rows_of layout table))
width layout (RunIndex table) = wide_if (nat_le (2 ^ 16) (rows_of layout table))
width layout (CodedIndex coding) = wide_if (is_wide_coding layout coding)

abbrev pub column_size : Layout → Column → ℕ
column_size layout column = size_of (width layout column)

abbrev pub columns_size : Layout → List Column → ℕ
columns_size layout [] = 0
columns_size layout (column ∷ rest) = column_size layout column + columns_size layout rest

-- the size of the address that a row may begin with
abbrev pub address_size : TableSchema → ℕ
address_size schema = if schema.has_address then 4 else 0

-- the size of a row
abbrev pub row_size : Layout → TableSchema → ℕ
row_size layout schema = address_size schema + columns_size layout schema.columns
