-- A heap of metadata as it is written, each item once: ECMA-335 II.24.2.3 to II.24.2.5.
use Rattle.std.specs.Prelude.{ℕ, List, [], ◌∷◌, ◌++◌, length, Option, Some, None}
use Rattle.std.specs.Map.{lookup}
use Rattle.std.specs.Str.{bytes_eq}
use Rattle.md_heaps.specs.Heaps.{spelling}
use Rattle.md_rows.specs.Widths.{or_zero}
use Rattle.md_write.specs.declared.kind.HeapKind.{HeapKind}
use Rattle.md_write.specs.declared.kind.HeapKind.TheVariants.{Strings, Guids, Blobs}

-- What a heap has so far: its items, each with the index by which rows name it, and its bytes.
pub record HeapParts : Type 0 where
  pub kind : HeapKind
  pub items : List (List ℕ × ℕ)
  pub bytes : List ℕ

-- an item as it stands in its heap: a name with a zero byte behind it, a GUID alone, a blob behind its length
abbrev pub spelled : HeapKind → List ℕ → List ℕ
spelled Strings item = item ++ 0 ∷ []
spelled Guids item = item
spelled Blobs item = spelling (length item) ++ item

-- the index of the next item: names and blobs are told by their place, and GUIDs are counted
abbrev pub next_index : HeapKind → List (List ℕ × ℕ) → List ℕ → ℕ
next_index Strings items bytes = length bytes
next_index Guids items bytes = length items
next_index Blobs items bytes = length bytes

-- the index of an item, if the heap has it
abbrev pub index_in : HeapParts → List ℕ → Option ℕ
index_in heap item = lookup (bytes_eq item) heap.items

-- the heap with an item behind all that it has
abbrev pub pushed : HeapParts → List ℕ → HeapParts
pushed heap item =
    record {
      kind = heap.kind;
      items = heap.items ++ (item, next_index heap.kind heap.items heap.bytes) ∷ [];
      bytes = heap.bytes ++ spelled heap.kind item;
    }

-- the heap with an item, unless it has it
abbrev pub unless_there : HeapParts → List ℕ → Option ℕ → HeapParts
unless_there heap item None = pushed heap item
unless_there heap item (Some index) = heap

-- the heap with an item, which stands in it once
unfoldable pub with_item : HeapParts → List ℕ → HeapParts
with_item heap item = unless_there heap item (index_in heap item)

abbrev pub no_heap : HeapKind → HeapParts
no_heap kind = record { kind = kind; items = []; bytes = [] }

-- The heap that has the empty item alone, whose index is 0. No GUID is written for the empty one, so the first that
-- there is has index 1.
abbrev pub first_heap : HeapKind → HeapParts
first_heap kind = with_item (no_heap kind) []

-- the index by which rows name an item; 0 where the heap hasn't got it
abbrev pub index_of : HeapParts → List ℕ → ℕ
index_of heap item = or_zero (index_in heap item)
