-- GUIDs stand in their heap at their numbers.
use Rattle.std.proofs.Common.{◌≡◌, ◌∙◌, ℕ, zero, suc, ◌+◌, ◌-◌, ◌*◌, ◌≤◌, ◌==◌, ◌||◌, Bool, true, false, cond, List, []}
use Rattle.std.proofs.Common.{◌∷◌, ◌++◌, length, take, drop, ap, refl, sym, inl, inr, Option, Some, None}
use Rattle.std.proofs.Common.{nat_lt, arith, length-append, length-drop, fold}
use Rattle.std.specs.List.{list_all}
use Rattle.std.specs.Str.{bytes_eq}
use Rattle.std.specs.Cmp.Lexicographic.{bytes_decides}
use Rattle.std.proofs.lemmas.Bool.{and_parts, or_cases, eqb-true, ltb-false, le-ltb}
use Rattle.std.proofs.lemmas.List.{drop-append-le, take-append-le, drop_at, take_all, nil_from_length}
use Rattle.md_heaps.specs.Heaps.{guid as guid_in}
use Rattle.md_rows.specs.declared.cell.Cell.{Cell}
use Rattle.md_rows.specs.declared.cell.Cell.TheVariants.{Number, Name, Blob, Index, Coded}
use Rattle.md_rows.specs.declared.schema.Column.{Column}
use Rattle.md_rows.specs.declared.schema.Column.TheVariants.{U8, U16, U32, StringIndex, GuidIndex, BlobIndex}
use Rattle.md_rows.specs.declared.schema.Column.TheVariants.{RowIndex, RunIndex, CodedIndex}
use Rattle.md_rows.specs.Tables.{TableSchema, tables as schemas}
use Rattle.md_rows.specs.Fits.{is_cell, are_cells}
use Rattle.md_tables.specs.declared.module.Table.{Table}
use Rattle.md_tables.specs.declared.module.TableRow.{TableRow}
use Rattle.md_tables.specs.Modules.{is_row, rows_in, is_module}
use Rattle.md_write.specs.declared.heaps.Heaps.{Heaps}
use Rattle.md_write.specs.declared.kind.HeapKind.TheVariants.{Guids}
use Rattle.md_write.specs.Heap.{HeapParts, spelled, next_index, index_in, pushed, unless_there, with_item, first_heap}
use Rattle.md_write.specs.Heaps.{first_heaps, with_bytes, with_cell, with_cells, own_cells, with_row, with_rows}
use Rattle.md_write.specs.Heaps.{table_rows, with_table, heaps_of}
use Rattle.md_write.proofs.Lookups.{lookup-more, lookup-last}
use Rattle.md_write.proofs.Owned.{own_fit}
use Rattle.md_write.proofs.Present.{TablesFit, rows_fit}

none≢some : {A : Type 0} (x : A) → None ≡ Some x → ⊥
none≢some x e = cc

-- a GUID that is there stays where more bytes follow
guid_more : (bytes more : List ℕ) (index : ℕ) (item : List ℕ) → guid_in bytes index ≡ Some item
    → guid_in (bytes ++ more) index ≡ Some item
guid_more bytes more zero item h = h
guid_more bytes more (suc n) item h = by (nat_lt (length bytes) (16 * suc n)) refl h
  where
    by : (b : Bool) → nat_lt (length bytes) (16 * suc n) ≡ b
        → cond b None (Some (take 16 (drop (16 * n) bytes))) ≡ Some item
        → guid_in (bytes ++ more) (suc n) ≡ Some item
    by true e h = absurd (none≢some item h)
    by false e h =
        let fits : 16 * suc n ≤ length bytes = ltb-false (length bytes) (16 * suc n) e in
        let size : length (bytes ++ more) ≡ length bytes + length more = length-append bytes more in
        let whole : nat_lt (length (bytes ++ more)) (16 * suc n) ≡ false =
        le-ltb (length (bytes ++ more)) (16 * suc n) (omega (arith, fits, size)) in
        let same : take 16 (drop (16 * n) (bytes ++ more)) ≡ take 16 (drop (16 * n) bytes) =
        ap (take 16) (drop-append-le (16 * n) bytes more (omega (arith, fits)))
        ∙ take-append-le 16 (drop (16 * n) bytes) more (omega (arith, fits, length-drop (16 * n) bytes)) in
        ap (λ b. cond b None (Some (take 16 (drop (16 * n) (bytes ++ more))))) whole ∙ (ap Some same ∙ h)

guid_last : (bytes item : List ℕ) (n : ℕ) → length bytes ≡ 16 * n → length item ≡ 16
    → guid_in (bytes ++ item) (suc n) ≡ Some item
guid_last bytes item n full sixteen =
    let size : length (bytes ++ item) ≡ length bytes + length item = length-append bytes item in
    let whole : nat_lt (length (bytes ++ item)) (16 * suc n) ≡ false =
    le-ltb (length (bytes ++ item)) (16 * suc n) (omega (arith, full, sixteen, size)) in
    ap (λ b. cond b None (Some (take 16 (drop (16 * n) (bytes ++ item))))) whole
    ∙ (ap (λ b. Some (take 16 b)) (drop_at bytes item (16 * n) full)
    ∙ ap Some (take_all 16 item (omega (arith, sixteen))))

-- a heap of GUIDs: it has the empty one, and each stands at its number
pub record IsGuids (heap : HeapParts) : Type 0 where
  pub is : heap.kind ≡ Guids
  pub empty : index_in heap [] ≡ Some 0
  pub count : length heap.bytes + 16 ≡ 16 * length heap.items
  pub read : (item : List ℕ) (index : ℕ) → index_in heap item ≡ Some index → guid_in heap.bytes index ≡ Some item

is_pushed : (heap : HeapParts) (item : List ℕ) → IsGuids heap → length item ≡ 16 → IsGuids (pushed heap item)
is_pushed heap item h sixteen =
    let next : ℕ = next_index heap.kind heap.items heap.bytes in
    let counted : next ≡ length heap.items = ap (λ k. next_index k heap.items heap.bytes) h.is in
    let alone : spelled heap.kind item ≡ item = ap (λ k. spelled k item) h.is in
    let size : length (heap.bytes ++ spelled heap.kind item) ≡ length heap.bytes + 16 =
    length-append heap.bytes (spelled heap.kind item) ∙ ap (λ b. length heap.bytes + length b) alone
    ∙ ap (λ n. length heap.bytes + n) sixteen in
    let more : length (heap.items ++ (item, next) ∷ []) ≡ length heap.items + 1 =
    length-append heap.items ((item, next) ∷ []) in
    let n : ℕ = length heap.items - 1 in
    let full : length heap.bytes ≡ 16 * n = omega (arith, h.count) in
    let last : suc n ≡ next = omega (arith, h.count, counted) in
    let there : guid_in (heap.bytes ++ spelled heap.kind item) next ≡ Some item =
    ap (λ b. guid_in (heap.bytes ++ b) next) alone
    ∙ (ap (guid_in (heap.bytes ++ item)) (sym last) ∙ guid_last heap.bytes item n full sixteen) in
    record {
      is = h.is;
      empty = lookup-more (bytes_eq []) heap.items (item, next) 0 h.empty;
      count = omega (arith, size, more, h.count);
      read = λ other index found.
          elim (lookup-last (bytes_eq other) heap.items (item, next) index found) [
            | inl old ↦ guid_more heap.bytes (spelled heap.kind item) index other (h.read other index old)
            | inr new ↦
                let same : other ≡ item = (bytes_decides other item).0 new.0 in
                ap (guid_in (heap.bytes ++ spelled heap.kind item)) (sym new.1) ∙ (there ∙ ap Some (sym same))
          ];
    }

is_with : (heap : HeapParts) (item : List ℕ) → IsGuids heap → (length item == 0 || length item == 16) ≡ true
    → IsGuids (with_item heap item)
unfolding with_item
is_with heap item h allowed = by (index_in heap item) refl
  where
    by : (found : Option ℕ) → index_in heap item ≡ found → IsGuids (unless_there heap item found)
    by (Some index) e = h
    by None e =
        elim (or_cases (length item == 0) (length item == 16) allowed) [
          | inl none ↦
              let same : item ≡ [] = nil_from_length item (eqb-true (length item) 0 none) in
              absurd (none≢some 0 (sym e ∙ (ap (index_in heap) same ∙ h.empty)))
          | inr some ↦ is_pushed heap item h (eqb-true (length item) 16 some)
        ]

only : (b : Bool) (index : ℕ) → cond b (Some 0) None ≡ Some index → index ≡ 0
only true index h = let same : 0 ≡ index = cc in sym same
only false index h = cc

by_test : (item : List ℕ) (b : Bool) (index : ℕ) → bytes_eq item [] ≡ b → cond b (Some 0) None ≡ Some index
    → guid_in [] index ≡ Some item
by_test item true index e h =
    let same : item ≡ [] = (bytes_decides item []).0 e in
    ap (guid_in []) (only true index h) ∙ ap Some (sym same)
by_test item false index e h = absurd (none≢some index h)

first_guids : IsGuids (first_heap Guids)
unfolding with_item
first_guids =
    record {
      is = refl;
      empty = refl;
      count = refl;
      read = λ item index h. by_test item (bytes_eq item []) index refl h;
    }

bytes_guids : (rows : ℕ → ℕ) (heaps : Heaps) (column : Column) (bytes : List ℕ)
    → is_cell rows column (Blob bytes) ≡ true → IsGuids heaps.guids → IsGuids (with_bytes heaps column bytes).guids
bytes_guids rows heaps U8 bytes is h = h
bytes_guids rows heaps U16 bytes is h = h
bytes_guids rows heaps U32 bytes is h = h
bytes_guids rows heaps StringIndex bytes is h = h
bytes_guids rows heaps GuidIndex bytes is h = is_with heaps.guids bytes h is
bytes_guids rows heaps BlobIndex bytes is h = h
bytes_guids rows heaps (RowIndex table) bytes is h = h
bytes_guids rows heaps (RunIndex table) bytes is h = h
bytes_guids rows heaps (CodedIndex coding) bytes is h = h

cell_guids : (rows : ℕ → ℕ) (heaps : Heaps) (column : Column) (cell : Cell) → is_cell rows column cell ≡ true
    → IsGuids heaps.guids → IsGuids (with_cell heaps column cell).guids
cell_guids rows heaps column (Number number) is h = h
cell_guids rows heaps column (Name text) is h = h
cell_guids rows heaps column (Blob bytes) is h = bytes_guids rows heaps column bytes is h
cell_guids rows heaps column (Index row) is h = h
cell_guids rows heaps column (Coded table row) is h = h

cells_guids : (rows : ℕ → ℕ) (columns : List Column) (cells : List Cell) (heaps : Heaps)
    → are_cells rows columns cells ≡ true → IsGuids heaps.guids → IsGuids (with_cells heaps columns cells).guids
cells_guids rows [] cells heaps are h = h
cells_guids rows (column ∷ columns) [] heaps are h = h
cells_guids rows (column ∷ columns) (cell ∷ cells) heaps are h =
    let parts = and_parts (is_cell rows column cell) (are_cells rows columns cells) are in
    cells_guids rows columns cells (with_cell heaps column cell) parts.1
    (cell_guids rows heaps column cell parts.0 h)

rows_guids : (rows : ℕ → ℕ) (schema : TableSchema) (list : List TableRow) (heaps : Heaps)
    → list_all (is_row rows schema) list ≡ true → IsGuids heaps.guids → IsGuids (with_rows schema heaps list).guids
rows_guids rows schema [] heaps are h = h
rows_guids rows schema (row ∷ list) heaps are h =
    let parts = and_parts (is_row rows schema row) (list_all (is_row rows schema) list) are in
    rows_guids rows schema list (with_row schema heaps row) parts.1
    (cells_guids rows schema.columns (own_cells schema.number row) heaps (own_fit rows schema row parts.0) h)

tables_guids : (rows : ℕ → ℕ) (tables : List Table) (list : List TableSchema) (heaps : Heaps)
    → TablesFit rows tables list → IsGuids heaps.guids → IsGuids (fold (with_table tables) heaps list).guids
tables_guids rows tables [] heaps fit h = h
tables_guids rows tables (schema ∷ list) heaps fit h =
    tables_guids rows tables list (with_table tables heaps schema) fit.1
    (rows_guids rows schema (table_rows tables schema.number) heaps fit.0 h)

pub are_guids : (tables : List Table) → is_module tables ≡ true → IsGuids (heaps_of tables).guids
unfolding heaps_of
are_guids tables is = tables_guids (rows_in tables) tables schemas first_heaps (rows_fit tables is) first_guids
