-- How high the indexes into the heaps of a module are.
use Rattle.std.proofs.Common.{◌≡◌, ◌∙◌, ℕ, ◌+◌, ◌≤◌, Bool, true, false, cond, List, [], ◌∷◌, ◌++◌, length, refl}
use Rattle.std.proofs.Common.{sym, arith, length-append, Option, Some, None, inl, inr}
use Rattle.std.specs.Str.{bytes_eq}
use Rattle.md_heaps.specs.Heaps.{spelling}
use Rattle.md_rows.specs.declared.cell.Cell.{Cell}
use Rattle.md_rows.specs.declared.cell.Cell.TheVariants.{Number, Name, Blob, Index, Coded}
use Rattle.md_rows.specs.declared.schema.Column.{Column}
use Rattle.md_rows.specs.declared.schema.Column.TheVariants.{U8, U16, U32, StringIndex, GuidIndex, BlobIndex}
use Rattle.md_rows.specs.declared.schema.Column.TheVariants.{RowIndex, RunIndex, CodedIndex}
use Rattle.md_rows.specs.Widths.{or_zero}
use Rattle.md_tables.specs.declared.module.Table.{Table}
use Rattle.md_write.specs.declared.heaps.Heaps.{Heaps}
use Rattle.md_write.specs.declared.kind.HeapKind.{HeapKind}
use Rattle.md_write.specs.declared.kind.HeapKind.TheVariants.{Strings, Guids, Blobs}
use Rattle.md_write.specs.Heap.{HeapParts, spelled, next_index, index_in, index_of, pushed, unless_there, with_item}
use Rattle.md_write.specs.Heap.{first_heap}
use Rattle.md_write.specs.Heaps.{with_cell, heaps_of}
use Rattle.md_write.proofs.Lookups.{lookup-more, lookup-last}
use Rattle.md_write.proofs.Keeping.{heaps_keep}

-- No index is above the length of the heap. Each item but the empty one has a byte, so GUIDs, which are counted, are no
-- more than the bytes and the empty one.
pub record IsBounded (heap : HeapParts) : Type 0 where
  pub indexes : (item : List ℕ) (index : ℕ) → index_in heap item ≡ Some index → index ≤ length heap.bytes
  pub count : length heap.items ≤ length heap.bytes + 1
  pub empty : index_in heap [] ≡ Some 0

some≢none : (n : ℕ) → Some n ≡ None → ⊥
some≢none n e = cc

has_byte : (heap : HeapParts) (item : List ℕ) → index_in heap [] ≡ Some 0 → index_in heap item ≡ None
    → 1 ≤ length item
has_byte heap [] there absent = absurd (some≢none 0 (sym there ∙ absent))
has_byte heap (byte ∷ item) there absent = omega arith

spelled_long : (kind : HeapKind) (item : List ℕ) → length item ≤ length (spelled kind item)
spelled_long Strings item = omega (arith, length-append item (0 ∷ []))
spelled_long Guids item = omega arith
spelled_long Blobs item = omega (arith, length-append (spelling (length item)) item)

next_low : (kind : HeapKind) (items : List (List ℕ × ℕ)) (bytes : List ℕ) → length items ≤ length bytes + 1
    → next_index kind items bytes ≤ length bytes + 1
next_low Strings items bytes h = omega arith
next_low Guids items bytes h = h
next_low Blobs items bytes h = omega arith

pushed_bounded : (heap : HeapParts) (item : List ℕ) → IsBounded heap → index_in heap item ≡ None
    → IsBounded (pushed heap item)
pushed_bounded heap item bounded absent =
    let next : ℕ = next_index heap.kind heap.items heap.bytes in
    let low : next ≤ length heap.bytes + 1 = next_low heap.kind heap.items heap.bytes bounded.count in
    let some : 1 ≤ length item = has_byte heap item bounded.empty absent in
    let long : length item ≤ length (spelled heap.kind item) = spelled_long heap.kind item in
    let size : length (heap.bytes ++ spelled heap.kind item) ≡ length heap.bytes + length (spelled heap.kind item) =
    length-append heap.bytes (spelled heap.kind item) in
    let more : length (heap.items ++ (item, next) ∷ []) ≡ length heap.items + 1 =
    length-append heap.items ((item, next) ∷ []) in
    record {
      indexes = λ other index h.
          elim (lookup-last (bytes_eq other) heap.items (item, next) index h) [
            | inl old ↦ omega (arith, bounded.indexes other index old, size)
            | inr new ↦ omega (arith, new.1, low, some, long, size)
          ];
      count = omega (arith, more, size, some, long, bounded.count);
      empty = lookup-more (bytes_eq []) heap.items (item, next) 0 bounded.empty;
    }

with_item_bounded : (heap : HeapParts) (item : List ℕ) → IsBounded heap → IsBounded (with_item heap item)
unfolding with_item
with_item_bounded heap item bounded = by (index_in heap item) refl
  where
    by : (found : Option ℕ) → index_in heap item ≡ found → IsBounded (unless_there heap item found)
    by None e = pushed_bounded heap item bounded e
    by (Some index) e = bounded

only : (b : Bool) (index : ℕ) → cond b (Some 0) None ≡ Some index → index ≡ 0
only true index h = let same : 0 ≡ index = cc in sym same
only false index h = cc

first_bounded : (kind : HeapKind) → IsBounded (first_heap kind)
unfolding with_item
first_bounded Strings =
    record {
      indexes = λ item index h. omega (arith, only (bytes_eq item []) index h);
      count = omega arith;
      empty = refl;
    }
first_bounded Guids =
    record {
      indexes = λ item index h. omega (arith, only (bytes_eq item []) index h);
      count = omega arith;
      empty = refl;
    }
first_bounded Blobs =
    record {
      indexes = λ item index h. omega (arith, only (bytes_eq item []) index h);
      count = omega arith;
      empty = refl;
    }

pub record AreBounded (heaps : Heaps) : Type 0 where
  pub strings : IsBounded heaps.strings
  pub guids : IsBounded heaps.guids
  pub blobs : IsBounded heaps.blobs

bytes_bounded : (heaps : Heaps) (column : Column) (bytes : List ℕ) → AreBounded heaps
    → AreBounded (with_cell heaps column (Blob bytes))
bytes_bounded heaps U8 bytes h = h
bytes_bounded heaps U16 bytes h = h
bytes_bounded heaps U32 bytes h = h
bytes_bounded heaps StringIndex bytes h = h
bytes_bounded heaps GuidIndex bytes h =
    record { strings = h.strings; guids = with_item_bounded heaps.guids bytes h.guids; blobs = h.blobs }
bytes_bounded heaps BlobIndex bytes h =
    record { strings = h.strings; guids = h.guids; blobs = with_item_bounded heaps.blobs bytes h.blobs }
bytes_bounded heaps (RowIndex table) bytes h = h
bytes_bounded heaps (RunIndex table) bytes h = h
bytes_bounded heaps (CodedIndex coding) bytes h = h

cell_bounded : (heaps : Heaps) (column : Column) (cell : Cell) → AreBounded heaps
    → AreBounded (with_cell heaps column cell)
cell_bounded heaps column (Number number) h = h
cell_bounded heaps column (Name text) h =
    record { strings = with_item_bounded heaps.strings text h.strings; guids = h.guids; blobs = h.blobs }
cell_bounded heaps column (Blob bytes) h = bytes_bounded heaps column bytes h
cell_bounded heaps column (Index row) h = h
cell_bounded heaps column (Coded table row) h = h

pub heaps_bounded : (tables : List Table) → AreBounded (heaps_of tables)
heaps_bounded tables =
    heaps_keep AreBounded cell_bounded tables
    (record { strings = first_bounded Strings; guids = first_bounded Guids; blobs = first_bounded Blobs })

-- the index of an item, or 0 where the heap hasn't got it
pub index_low : (heap : HeapParts) (item : List ℕ) → IsBounded heap → index_of heap item ≤ length heap.bytes
index_low heap item bounded = by (index_in heap item) refl
  where
    by : (found : Option ℕ) → index_in heap item ≡ found → or_zero found ≤ length heap.bytes
    by None e = omega arith
    by (Some index) e = bounded.indexes item index e
