-- The stream of tables as it is written: ECMA-335 II.24.2.6.
use Rattle.std.specs.Prelude.{ℕ, ◌+◌, ◌*◌, ◌^◌, ◌==◌, Bool, nat_le, List, [], ◌∷◌, ◌++◌, length, map}
use Rattle.std.specs.Prelude.{if◌then◌else◌}
use Rattle.std.specs.List.{range_with_len}
use Rattle.byteorder.specs.Endian.{little_bytes}
use Rattle.md_rows.specs.declared.layout.Layout.{Layout}
use Rattle.md_rows.specs.Tables.{tables as schemas}
use Rattle.md_tables.specs.declared.module.Table.{Table}
use Rattle.md_write.specs.declared.heaps.Heaps.{Heaps}
use Rattle.md_write.specs.Heaps.{heaps_of, table_rows}
use Rattle.md_write.specs.Contents.{padded, code_of}
use Rattle.md_write.specs.Rows.{tables_bytes}

-- ---- the heaps as streams: names and blobs with zeros behind them, up to a multiple of 4

abbrev pub strings_bytes : Heaps → List ℕ
strings_bytes heaps = padded 4 heaps.strings.bytes

abbrev pub guids_bytes : Heaps → List ℕ
guids_bytes heaps = heaps.guids.bytes

abbrev pub blobs_bytes : Heaps → List ℕ
blobs_bytes heaps = padded 4 heaps.blobs.bytes

-- indexes into so many bytes don't fit two bytes
abbrev pub is_wide : List ℕ → Bool
is_wide bytes = nat_le (2 ^ 16) (length bytes)

-- ---- the header

-- how many rows each of the tables 0 to 63 has
abbrev pub row_count : List Table → ℕ → ℕ
row_count tables number = length (table_rows tables number)

abbrev pub row_counts : List Table → List ℕ
row_counts tables = map (row_count tables) (range_with_len 0 64)

-- a bit for each table that has rows, the lowest for the first
abbrev pub mask_of : List ℕ → ℕ
mask_of [] = 0
mask_of (count ∷ rest) = (if count == 0 then 0 else 1) + 2 * mask_of rest

-- the number of rows of each table that has rows
abbrev pub count_bytes : ℕ → List ℕ
count_bytes count = if count == 0 then [] else little_bytes 4 count

abbrev pub counts_bytes : List ℕ → List ℕ
counts_bytes [] = []
counts_bytes (count ∷ rest) = count_bytes count ++ counts_bytes rest

-- how wide columns are, and where rows begin
abbrev pub layout_with : List ℕ → Heaps → Layout
layout_with counts heaps =
    record {
      rows = counts;
      place = 24 + length (counts_bytes counts);
      wide_strings = is_wide (strings_bytes heaps);
      wide_guids = is_wide (guids_bytes heaps);
      wide_blobs = is_wide (blobs_bytes heaps);
    }

abbrev pub bit_if : Bool → ℕ → ℕ
bit_if wide bit = if wide then bit else 0

abbrev pub heap_sizes : Layout → ℕ
heap_sizes layout = bit_if layout.wide_strings 1 + bit_if layout.wide_guids 2 + bit_if layout.wide_blobs 4

-- the tables whose rows the standard wants in the order of a column: InterfaceImpl, Constant, CustomAttribute,
-- FieldMarshal, DeclSecurity, ClassLayout, FieldLayout, MethodSemantics, MethodImpl, ImplMap, FieldRVA, NestedClass,
-- GenericParam and GenericParamConstraint
abbrev pub sorted_mask : ℕ
sorted_mask = 0x1600_3301_FA00

-- a reserved number, the version 2.0, HeapSizes, a reserved 1, Valid, Sorted, and the numbers of rows
abbrev pub tables_header : Layout → List ℕ
tables_header layout =
    little_bytes 4 0
    ++ ((2 ∷ 0 ∷ heap_sizes layout ∷ 1 ∷ [])
    ++ (little_bytes 8 (mask_of layout.rows) ++ (little_bytes 8 sorted_mask ++ counts_bytes layout.rows)))

-- ---- the stream

abbrev pub layout_of : List Table → Layout
layout_of tables = layout_with (row_counts tables) (heaps_of tables)

-- the address of the first body: the CLI header of 72 bytes stands in front of it
abbrev pub code_at : ℕ
code_at = 0x2048

abbrev pub data_at : List Table → ℕ
data_at tables = code_at + length (code_of tables)

abbrev pub stream_with : Layout → Heaps → ℕ → List Table → List ℕ
stream_with layout heaps data_at tables =
    padded 4 (tables_header layout ++ tables_bytes heaps layout code_at data_at tables schemas)

unfoldable pub stream_of : List Table → List ℕ
stream_of tables = stream_with (layout_of tables) (heaps_of tables) (data_at tables) tables
