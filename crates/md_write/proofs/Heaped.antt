-- Names and blobs stand in their heaps at their indexes, and are read there.
use Rattle.std.proofs.Common.{◌≡◌, ◌∙◌, ℕ, ◌+◌, ◌^◌, ◌<◌, ◌≤◌, ◌==◌, ◌&&◌, not, true, false, cond, List, [], ◌∷◌}
use Rattle.std.proofs.Common.{◌++◌, length, take, drop, replicate, ap, refl, sym, subst, inl, inr, Option, Some, None}
use Rattle.std.proofs.Common.{option_map, option_and_then, nat_lt, arith, append_assoc, length-append, ne_eqb}
use Rattle.std.specs.List.{list_all, position_or_len}
use Rattle.std.specs.Str.{bytes_eq, is_utf8}
use Rattle.std.specs.Cmp.Lexicographic.{bytes_decides}
use Rattle.std.proofs.lemmas.Bool.{and_parts, and_right, lt-ltb, le-ltb, cond_both}
use Rattle.std.proofs.lemmas.List.{take_at}
use Rattle.byteorder.specs.Endian.{big_bytes}
use Rattle.md_heaps.specs.Heaps.{spelling, compressed, in_front_of_zero, sized, blob as blob_in}
use Rattle.md_rows.specs.declared.cell.Cell.{Cell}
use Rattle.md_rows.specs.declared.cell.Cell.TheVariants.{Number, Name, Blob, Index, Coded}
use Rattle.md_rows.specs.declared.schema.Column.{Column}
use Rattle.md_rows.specs.declared.schema.Column.TheVariants.{U8, U16, U32, StringIndex, GuidIndex, BlobIndex}
use Rattle.md_rows.specs.declared.schema.Column.TheVariants.{RowIndex, RunIndex, CodedIndex}
use Rattle.md_rows.specs.Cells.{if_text, text_at, name_of, blob_of}
use Rattle.md_rows.specs.Fits.{is_name}
use Rattle.md_tables.specs.declared.module.Table.{Table}
use Rattle.md_write.specs.declared.heaps.Heaps.{Heaps}
use Rattle.md_write.specs.declared.kind.HeapKind.{HeapKind}
use Rattle.md_write.specs.declared.kind.HeapKind.TheVariants.{Strings, Blobs}
use Rattle.md_write.specs.Heap.{HeapParts, spelled, next_index, index_in, pushed, unless_there, with_item}
use Rattle.md_write.specs.Heaps.{with_cell, heaps_of}
use Rattle.md_write.specs.Contents.{padding, padded}
use Rattle.md_write.proofs.Standing.{Stands, stands-more, stands-last, stands-drop, stands-fits}
use Rattle.md_write.proofs.Lookups.{lookup-last}
use Rattle.md_write.proofs.Keeping.{heaps_keep}
use Rattle.md_write.proofs.Joined.{part_behind}

-- ---- each item stands at its index

-- indexes into the heap are places
abbrev pub ByPlace : HeapKind → Type 0
ByPlace kind = (items : List (List ℕ × ℕ)) (bytes : List ℕ) → next_index kind items bytes ≡ length bytes

abbrev pub AllStand : HeapParts → Type 0
AllStand heap =
    (item : List ℕ) (index : ℕ) → index_in heap item ≡ Some index → Stands heap.bytes (spelled heap.kind item) index

-- a heap of a kind, each of whose items stands at its index
pub record IsHeap (kind : HeapKind) (heap : HeapParts) : Type 0 where
  pub is : heap.kind ≡ kind
  pub stand : AllStand heap

pushed_stand : (heap : HeapParts) (item : List ℕ) → ByPlace heap.kind → AllStand heap → AllStand (pushed heap item)
pushed_stand heap item by_place all other index h =
    elim (lookup-last (bytes_eq other) heap.items (item, next_index heap.kind heap.items heap.bytes) index h) [
      | inl old ↦ stands-more heap.bytes (spelled heap.kind other) (spelled heap.kind item) index (all other index old)
      | inr new ↦
          let same : other ≡ item = (bytes_decides other item).0 new.0 in
          let at : length heap.bytes ≡ index = sym (by_place heap.items heap.bytes) ∙ new.1 in
          subst (λ n. Stands (heap.bytes ++ spelled heap.kind item) (spelled heap.kind other) n) at
          (subst (λ o. Stands (heap.bytes ++ spelled heap.kind item) (spelled heap.kind o) (length heap.bytes))
          (sym same) (stands-last heap.bytes (spelled heap.kind item)))
    ]

is_pushed : (kind : HeapKind) (heap : HeapParts) (item : List ℕ) → ByPlace kind → IsHeap kind heap
    → IsHeap kind (pushed heap item)
is_pushed kind heap item by_place h =
    record {
      is = h.is;
      stand = pushed_stand heap item (subst ByPlace (sym h.is) by_place) h.stand;
    }

is_with : (kind : HeapKind) (heap : HeapParts) (item : List ℕ) → ByPlace kind → IsHeap kind heap
    → IsHeap kind (with_item heap item)
unfolding with_item
is_with kind heap item by_place h = by (index_in heap item)
  where
    by : (found : Option ℕ) → IsHeap kind (unless_there heap item found)
    by None = is_pushed kind heap item by_place h
    by (Some index) = h

names_by_place : ByPlace Strings
names_by_place items bytes = refl

blobs_by_place : ByPlace Blobs
blobs_by_place items bytes = refl

none≢some : (index : ℕ) → None ≡ Some index → ⊥
none≢some index e = cc

nothing_stands : (kind : HeapKind) → IsHeap kind (record { kind = kind; items = []; bytes = [] })
nothing_stands kind = record { is = refl; stand = λ item index h. absurd (none≢some index h) }

-- the heaps of names and of blobs
pub record AreHeaps (heaps : Heaps) : Type 0 where
  pub strings : IsHeap Strings heaps.strings
  pub blobs : IsHeap Blobs heaps.blobs

bytes_heaps : (heaps : Heaps) (column : Column) (bytes : List ℕ) → AreHeaps heaps
    → AreHeaps (with_cell heaps column (Blob bytes))
bytes_heaps heaps U8 bytes h = h
bytes_heaps heaps U16 bytes h = h
bytes_heaps heaps U32 bytes h = h
bytes_heaps heaps StringIndex bytes h = h
bytes_heaps heaps GuidIndex bytes h = record { strings = h.strings; blobs = h.blobs }
bytes_heaps heaps BlobIndex bytes h =
    record { strings = h.strings; blobs = is_with Blobs heaps.blobs bytes blobs_by_place h.blobs }
bytes_heaps heaps (RowIndex table) bytes h = h
bytes_heaps heaps (RunIndex table) bytes h = h
bytes_heaps heaps (CodedIndex coding) bytes h = h

cell_heaps : (heaps : Heaps) (column : Column) (cell : Cell) → AreHeaps heaps → AreHeaps (with_cell heaps column cell)
cell_heaps heaps column (Number number) h = h
cell_heaps heaps column (Name text) h =
    record { strings = is_with Strings heaps.strings text names_by_place h.strings; blobs = h.blobs }
cell_heaps heaps column (Blob bytes) h = bytes_heaps heaps column bytes h
cell_heaps heaps column (Index row) h = h
cell_heaps heaps column (Coded table row) h = h

pub are_heaps : (tables : List Table) → AreHeaps (heaps_of tables)
are_heaps tables =
    heaps_keep AreHeaps cell_heaps tables
    (record {
      strings = is_with Strings (record { kind = Strings; items = []; bytes = [] }) [] names_by_place
          (nothing_stands Strings);
      blobs = is_with Blobs (record { kind = Blobs; items = []; bytes = [] }) [] blobs_by_place (nothing_stands Blobs);
    })

-- an item stands at its index in the stream too, where zeros stand behind the heap
pub stands_padded : (kind : HeapKind) (heap : HeapParts) (item : List ℕ) (index : ℕ) → IsHeap kind heap
    → index_in heap item ≡ Some index → Stands (padded 4 heap.bytes) (spelled kind item) index
stands_padded kind heap item index h at =
    let here : Stands heap.bytes (spelled heap.kind item) index = h.stand item index at in
    stands-more heap.bytes (spelled kind item) (replicate (padding 4 (length heap.bytes)) 0) index
    (subst (λ k. Stands heap.bytes (spelled k item) index) h.is here)

-- a heap that an item stands in isn't empty
not_empty : (bytes part : List ℕ) (at : ℕ) → Stands bytes part at → 0 < length part
    → (at == 0 && length bytes == 0) ≡ false
not_empty bytes part at h some =
    let fits : at + length part ≤ length bytes = stands-fits bytes part at h in
    and_right (at == 0) (length bytes == 0) (ne_eqb (length bytes) 0 (λ e. absurd (not_none e fits)))
  where
    not_none : length bytes ≡ 0 → at + length part ≤ length bytes → ⊥
    not_none e fits = omega (arith, e, fits, some)

-- ---- names

zero_behind : (text behind : List ℕ) → list_all (λ byte. not (byte == 0)) text ≡ true
    → position_or_len (λ byte. byte == 0) (text ++ 0 ∷ behind) ≡ length text
zero_behind [] behind none = refl
zero_behind (byte ∷ text) behind none =
    let parts = and_parts (not (byte == 0)) (list_all (λ b. not (b == 0)) text) none in
    let other : not (byte == 0) ≡ true = parts.0 in
    let more : 1 + position_or_len (λ b. b == 0) (text ++ 0 ∷ behind) ≡ length (byte ∷ text) =
    omega (arith, zero_behind text behind parts.1) in
    ap (λ b. cond b (1 + position_or_len (λ b. b == 0) (text ++ 0 ∷ behind)) 0) other ∙ more

in_front : (text behind : List ℕ) → list_all (λ byte. not (byte == 0)) text ≡ true
    → in_front_of_zero (text ++ 0 ∷ behind) ≡ Some text
in_front text behind none =
    let bytes : List ℕ = text ++ 0 ∷ behind in
    let first = zero_behind text behind none in
    let size : length bytes ≡ length text + length (0 ∷ behind) = length-append text (0 ∷ behind) in
    let within : nat_lt (length text) (length bytes) ≡ true =
    lt-ltb (length text) (length bytes) (omega (arith, size)) in
    ap (λ n. option_map (λ k. take k bytes) (cond (nat_lt n (length bytes)) (Some n) None)) first
    ∙ (ap (λ b. option_map (λ k. take k bytes) (cond b (Some (length text)) None)) within
    ∙ ap Some (take_at text (0 ∷ behind) (length text) refl))

pub name_read : (heap : HeapParts) (text : List ℕ) (index : ℕ) → IsHeap Strings heap
    → index_in heap text ≡ Some index → is_name (Name text) ≡ true → name_of (padded 4 heap.bytes) index ≡ Some text
name_read heap text index h at named =
    let bytes : List ℕ = padded 4 heap.bytes in
    let parts = and_parts (is_utf8 text) (list_all (λ byte. not (byte == 0)) text) named in
    let here : Stands bytes (text ++ 0 ∷ []) index = stands_padded Strings heap text index h at in
    let size : length (text ++ 0 ∷ []) ≡ length text + 1 = length-append text (0 ∷ []) in
    let there : drop index bytes ≡ text ++ 0 ∷ here.behind =
    stands-drop bytes (text ++ 0 ∷ []) index here ∙ append_assoc text (0 ∷ []) here.behind in
    ap (λ b. cond b (Some []) (text_at bytes index))
    (not_empty bytes (text ++ 0 ∷ []) index here (omega (arith, size)))
    ∙ (ap (λ b. option_and_then if_text (in_front_of_zero b)) there
    ∙ (ap (option_and_then if_text) (in_front text here.behind parts.1)
    ∙ ap (λ b. cond b (Some text) None) parts.0))

-- ---- blobs

-- a number below 2 ^ 29 is read back from its spelling
abbrev pub SpellingsRead : Type 0
SpellingsRead = (n : ℕ) (rest : List ℕ) → n < 2 ^ 29 → compressed (spelling n ++ rest) ≡ Some (n, length (spelling n))

some_bytes : (n : ℕ) → 0 < length (spelling n)
some_bytes n =
    cond_both (nat_lt n (2 ^ 7)) (n ∷ []) (cond (nat_lt n (2 ^ 14)) (big_bytes 2 (2 ^ 15 + n))
    (big_bytes 4 (2 ^ 31 + 2 ^ 30 + n))) (λ b. 0 < length b) (λ e. omega arith)
    (λ e. cond_both (nat_lt n (2 ^ 14)) (big_bytes 2 (2 ^ 15 + n)) (big_bytes 4 (2 ^ 31 + 2 ^ 30 + n))
    (λ b. 0 < length b) (λ f. omega arith) (λ f. omega arith))

blob_in_front : (item behind : List ℕ) → SpellingsRead → length item < 2 ^ 29
    → blob_in (spelling (length item) ++ (item ++ behind)) ≡ Some item
blob_in_front item behind spellings short =
    let n : ℕ = length item in
    let bytes : List ℕ = spelling n ++ (item ++ behind) in
    let size : length bytes ≡ length (spelling n) + (length item + length behind) =
    length-append (spelling n) (item ++ behind) ∙ ap (λ k. length (spelling n) + k) (length-append item behind) in
    let whole : nat_lt (length bytes) (length (spelling n) + n) ≡ false =
    le-ltb (length bytes) (length (spelling n) + n) (omega (arith, size)) in
    ap (option_and_then (sized bytes)) (spellings n (item ++ behind) short)
    ∙ (ap (λ b. cond b None (Some (take n (drop (length (spelling n)) bytes)))) whole
    ∙ ap Some (part_behind (spelling n) item behind (length (spelling n)) n refl refl))

pub blob_read : (heap : HeapParts) (item : List ℕ) (index : ℕ) → SpellingsRead → IsHeap Blobs heap
    → index_in heap item ≡ Some index → length item < 2 ^ 29 → blob_of (padded 4 heap.bytes) index ≡ Some item
blob_read heap item index spellings h at short =
    let bytes : List ℕ = padded 4 heap.bytes in
    let part : List ℕ = spelling (length item) ++ item in
    let here : Stands bytes part index = stands_padded Blobs heap item index h at in
    let some : 0 < length (spelling (length item)) = some_bytes (length item) in
    let size : length part ≡ length (spelling (length item)) + length item =
    length-append (spelling (length item)) item in
    let there : drop index bytes ≡ spelling (length item) ++ (item ++ here.behind) =
    stands-drop bytes part index here ∙ append_assoc (spelling (length item)) item here.behind in
    ap (λ b. cond b (Some []) (blob_in (drop index bytes)))
    (not_empty bytes part index here (omega (arith, some, size)))
    ∙ (ap blob_in there ∙ blob_in_front item here.behind spellings short)
