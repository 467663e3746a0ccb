-- Each cell is read back from the number that stands in its column.
use Rattle.std.proofs.Common.{◌≡◌, ◌∙◌, ℕ, suc, ◌+◌, ◌/◌, ◌%◌, ◌^◌, ◌<◌, ◌==◌, ◌&&◌, ◌||◌, Bool, true, false}
use Rattle.std.proofs.Common.{cond, not, nat_le, List, [], ◌∷◌, length, ap, refl, sym, Option, Some}
use Rattle.std.proofs.Common.{None, option_map, arith}
use Rattle.std.specs.Prelude.{slice_get}
use Rattle.std.specs.List.{list_any, position_or_len}
use Rattle.std.proofs.lemmas.Bool.{and_parts, and_from, false≢true, le-leb, lt-ltb, ltb-true, eqb-true}
use Rattle.std.proofs.lemmas.Nat.{div-mul-add, mod-mul-add}
use Rattle.md_heaps.specs.Heaps.{guid as guid_in}
use Rattle.md_rows.specs.declared.cell.Cell.{Cell}
use Rattle.md_rows.specs.declared.cell.Cell.TheVariants.{Number, Name, Blob, Index, Coded}
use Rattle.md_rows.specs.declared.coding.Coding.{Coding}
use Rattle.md_rows.specs.declared.layout.Layout.{Layout}
use Rattle.md_rows.specs.declared.schema.Column.{Column}
use Rattle.md_rows.specs.declared.schema.Column.TheVariants.{U8, U16, U32, StringIndex, GuidIndex, BlobIndex}
use Rattle.md_rows.specs.declared.schema.Column.TheVariants.{RowIndex, RunIndex, CodedIndex}
use Rattle.md_rows.specs.Tables.{tag_bits, tag_tables, is_skipped}
use Rattle.md_rows.specs.Widths.{rows_of, or_zero}
use Rattle.md_rows.specs.Cells.{StreamBytes, name_of, blob_of, index_cell, row_of_table, row_of_tag, coded_cell}
use Rattle.md_rows.specs.Cells.{cell_of}
use Rattle.md_rows.specs.Fits.{is_name, is_cell, is_behind}
use Rattle.md_tables.specs.declared.module.Table.{Table}
use Rattle.md_tables.specs.Modules.{is_module}
use Rattle.md_write.specs.declared.heaps.Heaps.{Heaps}
use Rattle.md_write.specs.Heap.{HeapParts, index_of}
use Rattle.md_write.specs.Heaps.{is_short, heaps_of}
use Rattle.md_write.specs.Rows.{names, tag_of, coded_number, cell_number}
use Rattle.md_write.specs.Stream.{strings_bytes, guids_bytes, blobs_bytes}
use Rattle.md_write.proofs.Fitted.{tag_low}
use Rattle.md_write.proofs.Heaped.{are_heaps, name_read, blob_read, SpellingsRead}
use Rattle.md_write.proofs.Guided.{are_guids}
use Rattle.md_write.proofs.Held.{Has, CellHeld}

-- ---- heaps

-- the heaps of a stream give back what those that were written have
pub record AreRead (bytes : StreamBytes) (heaps : Heaps) : Type 0 where
  pub texts : (text : List ℕ) → Has heaps.strings text → is_name (Name text) ≡ true
      → name_of bytes.strings (index_of heaps.strings text) ≡ Some text
  pub guids : (item : List ℕ) → Has heaps.guids item → guid_in bytes.guid (index_of heaps.guids item) ≡ Some item
  pub blobs : (item : List ℕ) → Has heaps.blobs item → length item < 2 ^ 29
      → blob_of bytes.blob (index_of heaps.blobs item) ≡ Some item

-- the index by which rows name an item that the heap has
index_is : (heap : HeapParts) (item : List ℕ) (had : Has heap item) → index_of heap item ≡ had.0
index_is heap item had = ap or_zero had.1

-- the streams of a module's heaps
pub record HasHeaps (bytes : StreamBytes) (heaps : Heaps) : Type 0 where
  pub strings : bytes.strings ≡ strings_bytes heaps
  pub guid : bytes.guid ≡ guids_bytes heaps
  pub blob : bytes.blob ≡ blobs_bytes heaps

pub heaps_read : (tables : List Table) (bytes : StreamBytes) → is_module tables ≡ true → SpellingsRead
    → HasHeaps bytes (heaps_of tables) → AreRead bytes (heaps_of tables)
heaps_read tables bytes is spellings has =
    let heaps : Heaps = heaps_of tables in
    record {
      texts = λ text had named.
          ap (λ b. name_of b (index_of heaps.strings text)) has.strings
          ∙ (ap (name_of (strings_bytes heaps)) (index_is heaps.strings text had)
          ∙ name_read heaps.strings text had.0 (are_heaps tables).strings had.1 named);
      guids = λ item had.
          ap (λ b. guid_in b (index_of heaps.guids item)) has.guid
          ∙ (ap (guid_in (guids_bytes heaps)) (index_is heaps.guids item had)
          ∙ (are_guids tables is).read item had.0 had.1);
      blobs = λ item had short.
          ap (λ b. blob_of b (index_of heaps.blobs item)) has.blob
          ∙ (ap (blob_of (blobs_bytes heaps)) (index_is heaps.blobs item had)
          ∙ blob_read heaps.blobs item had.0 spellings (are_heaps tables).blobs had.1 short);
    }

-- ---- indexes of rows

index_read : (least most index : ℕ) → nat_le least index ≡ true → nat_le index most ≡ true
    → index_cell least most index ≡ Some (Index index)
index_read least most index low high =
    ap (λ b. cond b (Some (Index index)) None) (and_from (nat_le least index) (nat_le index most) low high)

names_it : (table : ℕ) (tag : Option ℕ) → names table tag ≡ true → tag ≡ Some table
names_it table None h = absurd (false≢true h)
names_it table (Some other) h = ap Some (eqb-true other table h)

-- the first tag that names a table
pub record IsTag (table : ℕ) (tags : List (Option ℕ)) : Type 0 where
  pub within : position_or_len (names table) tags < length tags
  pub here : slice_get tags (position_or_len (names table) tags) ≡ Some (Some table)

first_tag : (table : ℕ) (tags : List (Option ℕ)) → list_any (names table) tags ≡ true → IsTag table tags
first_tag table [] any = absurd (false≢true any)
first_tag table (tag ∷ tags) any = by (names table tag) refl any (λ rest. first_tag table tags rest)
  where
    by : (b : Bool) → names table tag ≡ b → (b || list_any (names table) tags) ≡ true
        → (list_any (names table) tags ≡ true → IsTag table tags) → IsTag table (tag ∷ tags)
    by true e any rest =
        let at : position_or_len (names table) (tag ∷ tags) ≡ 0 =
        ap (λ b. cond (not b) (1 + position_or_len (names table) tags) 0) e in
        record {
          within = omega (arith, at);
          here = ap (slice_get (tag ∷ tags)) at ∙ ap Some (names_it table tag e);
        }
    by false e any rest =
        let behind = rest any in
        let at : position_or_len (names table) (tag ∷ tags) ≡ 1 + position_or_len (names table) tags =
        ap (λ b. cond (not b) (1 + position_or_len (names table) tags) 0) e in
        let next : position_or_len (names table) (tag ∷ tags) ≡ suc (position_or_len (names table) tags) =
        omega (arith, at) in
        record {
          within = omega (arith, next, behind.within);
          here = ap (slice_get (tag ∷ tags)) next ∙ behind.here;
        }

tag_is : (coding : Coding) (table : ℕ) → IsTag table (tag_tables coding)
    → slice_get (tag_tables coding) (tag_of coding table) ≡ Some (Some table)
tag_is coding table h =
    let at : ℕ = position_or_len (names table) (tag_tables coding) in
    let found : tag_of coding table ≡ at =
    ap (λ b. or_zero (cond b (Some at) None)) (lt-ltb at (length (tag_tables coding)) h.within) in
    ap (slice_get (tag_tables coding)) found ∙ h.here

row_read : (layout : Layout) (table row : ℕ) (b : Bool) → is_skipped table ≡ b
    → cond b (row == 0) (nat_le row (rows_of layout table)) ≡ true
    → row_of_table layout row table ≡ Some (Coded table row)
row_read layout table row true e h =
    let none : row ≡ 0 = eqb-true row 0 h in
    let low : nat_le row (rows_of layout table) ≡ true =
    le-leb row (rows_of layout table) (omega (arith, none)) in
    ap (λ c. cond c (Some (Coded table (cond (is_skipped table) 0 row))) None) low
    ∙ (ap (λ c. Some (Coded table (cond c 0 row))) e ∙ ap (λ n. Some (Coded table n)) (sym none))
row_read layout table row false e h =
    ap (λ c. cond c (Some (Coded table (cond (is_skipped table) 0 row))) None) h
    ∙ ap (λ c. Some (Coded table (cond c 0 row))) e

coded_read : (layout : Layout) (coding : Coding) (table row : ℕ)
    → (list_any (names table) (tag_tables coding)
    && cond (is_skipped table) (row == 0) (nat_le row (rows_of layout table))) ≡ true
    → coded_cell layout coding (coded_number coding table row) ≡ Some (Coded table row)
coded_read layout coding table row h =
    let parts = and_parts (list_any (names table) (tag_tables coding))
    (cond (is_skipped table) (row == 0) (nat_le row (rows_of layout table))) h in
    let power : ℕ = 2 ^ tag_bits coding in
    let number : ℕ = coded_number coding table row in
    let high : number / power ≡ row = div-mul-add row power (tag_of coding table) (tag_low coding table) in
    let low : number % power ≡ tag_of coding table =
    mod-mul-add row power (tag_of coding table) (tag_low coding table) in
    ap (λ n. row_of_tag layout n (slice_get (tag_tables coding) (number % power))) high
    ∙ (ap (λ n. row_of_tag layout row (slice_get (tag_tables coding) n)) low
    ∙ (ap (row_of_tag layout row) (tag_is coding table (first_tag table (tag_tables coding) parts.0))
    ∙ row_read layout table row (is_skipped table) refl parts.1))

-- ---- cells

-- What a column holds is read from its number; `front` is the cell of the row in front.
pub cell_read : (bytes : StreamBytes) (layout : Layout) (heaps : Heaps) → AreRead bytes heaps → (column : Column)
    → (front cell : Cell) → is_cell (rows_of layout) column front ≡ true
    → is_cell (rows_of layout) column cell ≡ true → is_behind column front cell ≡ true → is_short cell ≡ true
    → CellHeld heaps column cell
    → cell_of bytes layout column (cell_number heaps column front) (cell_number heaps column cell) ≡ Some cell
cell_read bytes layout heaps are U8 front (Number number) f is b short held = refl
cell_read bytes layout heaps are U8 front cell f is b short held = absurd (false≢true is)
cell_read bytes layout heaps are U16 front (Number number) f is b short held = refl
cell_read bytes layout heaps are U16 front cell f is b short held = absurd (false≢true is)
cell_read bytes layout heaps are U32 front (Number number) f is b short held = refl
cell_read bytes layout heaps are U32 front cell f is b short held = absurd (false≢true is)
cell_read bytes layout heaps are StringIndex front (Name text) f is b short held =
    ap (option_map Name) (are.texts text held is)
cell_read bytes layout heaps are StringIndex front cell f is b short held = absurd (false≢true is)
cell_read bytes layout heaps are GuidIndex front (Blob item) f is b short held =
    ap (option_map Blob) (are.guids item held)
cell_read bytes layout heaps are GuidIndex front cell f is b short held = absurd (false≢true is)
cell_read bytes layout heaps are BlobIndex front (Blob item) f is b short held =
    ap (option_map Blob) (are.blobs item held (ltb-true (length item) (2 ^ 29) short))
cell_read bytes layout heaps are BlobIndex front cell f is b short held = absurd (false≢true is)
cell_read bytes layout heaps are (RowIndex table) front (Index row) f is b short held =
    index_read 0 (rows_of layout table) row (le-leb 0 row (omega arith)) is
cell_read bytes layout heaps are (RowIndex table) front cell f is b short held = absurd (false≢true is)
cell_read bytes layout heaps are (RunIndex table) (Index first) (Index row) f is b short held =
    index_read first (rows_of layout table + 1) row b
    (and_parts (nat_le row (rows_of layout table + 1)) (not (rows_of layout table == 0xFFFF && row == 0x1_0000)) is).0
cell_read bytes layout heaps are (RunIndex table) (Index first) cell f is b short held = absurd (false≢true is)
cell_read bytes layout heaps are (RunIndex table) front cell f is b short held = absurd (false≢true f)
cell_read bytes layout heaps are (CodedIndex coding) front (Coded table row) f is b short held =
    coded_read layout coding table row is
cell_read bytes layout heaps are (CodedIndex coding) front cell f is b short held = absurd (false≢true is)
