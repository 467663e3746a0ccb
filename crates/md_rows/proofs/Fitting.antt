-- What a cell of a column is.
use Rattle.std.proofs.Common.{◌≡◌, ◌∙◌, ℕ, zero, suc, ◌+◌, ◌-◌, ◌/◌, ◌%◌, ◌^◌, ◌*◌, ◌<◌, ◌≤◌, Bool, true}
use Rattle.std.proofs.Common.{false, not}
use Rattle.std.proofs.Common.{cond, ◌&&◌, ◌||◌, ◌==◌, nat_le, nat_lt, List, [], ◌∷◌, length, take, drop, get_or, Option}
use Rattle.std.proofs.Common.{Some, None}
use Rattle.std.proofs.Common.{ap, refl, sym, subst, arith}
use Rattle.std.specs.Prelude.{slice_get, All, position}
use Rattle.std.specs.Option.{option_map, option_and_then}
use Rattle.std.specs.List.{list_any, list_all}
use Rattle.std.specs.Str.{is_utf8}
use Rattle.std.proofs.lemmas.Bool.{leb-true, ltb-true, ltb-false, lt-ltb, eqb-true, eq-eqb, and_from, or_right}
use Rattle.std.proofs.lemmas.Str.{is_utf8-from_IsUtf8, IsUtf8-nil}
use Rattle.std.proofs.lemmas.List.{length-take-le, length-drop, get_or-take, get_or-drop, get_or_past}
use Rattle.std.proofs.lemmas.List.Elements.{All-from_get_or}
use Rattle.std.proofs.lemmas.List.Sums.{list_all-from_AllPass}
use Rattle.std.proofs.lemmas.List.Quantifiers.{position-Some}
use Rattle.md_heaps.specs.Heaps.{guid}
use Rattle.md_rows.specs.declared.cell.Cell.{Cell}
use Rattle.md_rows.specs.declared.cell.Cell.TheVariants.{Number, Name, Blob, Index, Coded}
use Rattle.md_rows.specs.declared.coding.Coding.{Coding}
use Rattle.md_rows.specs.declared.layout.Layout.{Layout}
use Rattle.md_rows.specs.declared.schema.Column.{Column}
use Rattle.md_rows.specs.declared.schema.Column.TheVariants.{U8, U16, U32, StringIndex, GuidIndex, BlobIndex}
use Rattle.md_rows.specs.declared.schema.Column.TheVariants.{RowIndex, RunIndex, CodedIndex}
use Rattle.md_rows.specs.declared.width.Width.{Width}
use Rattle.md_rows.specs.declared.width.Width.TheVariants.{One, Two, Four}
use Rattle.md_rows.specs.Tables.{tag_tables, tag_bits, is_skipped}
use Rattle.md_rows.specs.Widths.{rows_of, number_at, size_of, wide_if, width, column_size}
use Rattle.md_rows.specs.Cells.{StreamBytes, if_text, text_at, name_of, blob_of, index_cell, row_of_tag, cell_of}
use Rattle.md_rows.specs.Fits.{is_name, is_guid, is_row, is_run, names, is_coded, is_cell, CellsFitTheirColumns}

-- what an option that was mapped came from
mapped : {A : Type 0} (f : A → Cell) (o : Option A) (cell : Cell) → option_map f o ≡ Some cell
    → (a : A) × (o ≡ Some a) × (f a ≡ cell)
mapped f None cell h = cc
mapped f (Some a) cell h = let same : f a ≡ cell = cc in (a, refl, same)

-- what a test that chose an item tells
chosen : {A : Type 0} (b : Bool) (x y : A) → cond b (Some x) None ≡ Some y → (b ≡ true) × (x ≡ y)
chosen true x y h = let same : x ≡ y = cc in (refl, same)
chosen false x y h = cc

not_chosen : {A : Type 0} (b : Bool) (x y : A) → cond b None (Some x) ≡ Some y → (b ≡ false) × (x ≡ y)
not_chosen true x y h = cc
not_chosen false x y h = let same : x ≡ y = cc in (refl, same)

-- ---- numbers

-- what a number of so many bytes is below
abbrev limit : Width → ℕ
limit One = 0x100
limit Two = 0x1_0000
limit Four = 0x1_0000_0000

byte_by : (b : Bool) (bytes : List ℕ) (i : ℕ) → nat_lt i (length bytes) ≡ b → All (λ byte. byte < 256) bytes
    → get_or bytes i 0 < 256
byte_by true bytes i e h = h i 0 (ltb-true _ _ e)
byte_by false bytes i e h =
    let none : get_or bytes i 0 ≡ 0 = get_or_past bytes i 0 (ltb-false _ _ e) in omega (arith, none)

byte_below : (bytes : List ℕ) (at i : ℕ) → All (λ byte. byte < 256) bytes → get_or (drop at bytes) i 0 < 256
byte_below bytes at i h =
    subst (λ byte. byte < 256) (sym (get_or-drop at bytes i 0))
    (byte_by (nat_lt (at + i) (length bytes)) bytes (at + i) refl h)

number_below : (bytes : List ℕ) (w : Width) (at : ℕ) → All (λ byte. byte < 256) bytes
    → number_at bytes (size_of w) at < limit w
number_below bytes One at h = omega (arith, byte_below bytes at 0 h)
number_below bytes Two at h = omega (arith, byte_below bytes at 0 h, byte_below bytes at 1 h)
number_below bytes Four at h =
    omega (arith, byte_below bytes at 0 h, byte_below bytes at 1 h, byte_below bytes at 2 h, byte_below bytes at 3 h)

-- ---- names

not_zero : (b : Bool) → b ≡ false → not b ≡ true
not_zero true h = cc
not_zero false h = refl

none_in_front : (bytes : List ℕ) (n : ℕ) → position (λ byte. byte == 0) bytes ≡ Some n
    → list_all (λ byte. not (byte == 0)) (take n bytes) ≡ true
none_in_front bytes n e =
    let found = position-Some (λ byte. byte == 0) bytes n 0 e in
    let size : length (take n bytes) ≡ n = length-take-le n bytes (omega (arith, found.0)) in
    list_all-from_AllPass (λ byte. not (byte == 0)) (take n bytes)
    (All-from_get_or (λ byte. not (byte == 0) ≡ true) (take n bytes) 0
    (λ i less.
    let before : i < n = omega (arith, less, size) in
    subst (λ byte. not (byte == 0) ≡ true) (sym (get_or-take n bytes i 0 before))
    (not_zero (get_or bytes i 0 == 0) (found.2 i before))))

text_by : (bytes text : List ℕ) (o : Option ℕ) → position (λ byte. byte == 0) bytes ≡ o
    → option_and_then if_text (option_map (λ n. take n bytes) o) ≡ Some text → is_name (Name text) ≡ true
text_by bytes text None e h = cc
text_by bytes text (Some n) e h =
    let is = chosen (is_utf8 (take n bytes)) (take n bytes) text h in
    subst (λ t. is_name (Name t) ≡ true) is.1
    (and_from (is_utf8 (take n bytes)) (list_all (λ byte. not (byte == 0)) (take n bytes)) is.0
    (none_in_front bytes n e))

name_by : (b : Bool) (heap : List ℕ) (at : ℕ) (text : List ℕ) → cond b (Some []) (text_at heap at) ≡ Some text
    → is_name (Name text) ≡ true
name_by true heap at text h =
    let same : [] ≡ text = cc in
    subst (λ t. is_name (Name t) ≡ true) same
    (and_from (is_utf8 []) true (is_utf8-from_IsUtf8 [] IsUtf8-nil) refl)
name_by false heap at text h =
    text_by (drop at heap) text (position (λ byte. byte == 0) (drop at heap)) refl h

-- ---- GUIDs

guid_is : (heap : List ℕ) (n : ℕ) (bytes : List ℕ) → guid heap n ≡ Some bytes → is_guid (Blob bytes) ≡ true
guid_is heap zero bytes h =
    let same : [] ≡ bytes = cc in subst (λ b. is_guid (Blob b) ≡ true) same refl
guid_is heap (suc n) bytes h =
    let is = not_chosen (nat_lt (length heap) (16 * suc n)) (take 16 (drop (16 * n) heap)) bytes h in
    let there : 16 * suc n ≤ length heap = ltb-false _ _ is.0 in
    let rest : length (drop (16 * n) heap) ≡ length heap - 16 * n = length-drop (16 * n) heap in
    let size : length (take 16 (drop (16 * n) heap)) ≡ 16 =
    length-take-le 16 (drop (16 * n) heap) (omega (arith, there, rest)) in
    subst (λ k. (k == 0 || k == 16) ≡ true) (sym (sym (ap length is.1) ∙ size)) refl

-- ---- indexes

right_of : (a b : Bool) → (a && b) ≡ true → b ≡ true
right_of true b h = h
right_of false b h = cc

row_is : (least most index : ℕ) (cell : Cell) → index_cell least most index ≡ Some cell → is_row most cell ≡ true
row_is least most index cell h =
    let is = chosen (nat_le least index && nat_le index most) (Index index) cell h in
    subst (λ c. is_row most c ≡ true) is.1 (right_of (nat_le least index) (nat_le index most) is.0)

not_both : (a b : Bool) → (a ≡ true → b ≡ true → ⊥) → not (a && b) ≡ true
not_both true true h = absurd (h refl refl)
not_both true false h = refl
not_both false b h = refl

-- an index into a table of 65,535 rows has two bytes
narrow : (b : Bool) (count index : ℕ) → nat_le 0x1_0000 count ≡ b → index < limit (wide_if b) → count ≡ 0xFFFF
    → index ≡ 0x1_0000 → ⊥
narrow true count index e low full past =
    let many : 0x1_0000 ≤ count = leb-true _ _ e in omega (arith, many, full)
narrow false count index e low full past = omega (arith, low, past)

run_is : (least count index : ℕ) (cell : Cell) → index < limit (wide_if (nat_le 0x1_0000 count))
    → index_cell least (count + 1) index ≡ Some cell → is_run count cell ≡ true
run_is least count index cell low h =
    let is = chosen (nat_le least index && nat_le index (count + 1)) (Index index) cell h in
    subst (λ c. is_run count c ≡ true) is.1
    (and_from (nat_le index (count + 1)) (not (count == 0xFFFF && index == 0x1_0000))
    (right_of (nat_le least index) (nat_le index (count + 1)) is.0)
    (not_both (count == 0xFFFF) (index == 0x1_0000)
    (λ full past.
    narrow (nat_le 0x1_0000 count) count index refl low (eqb-true _ _ full) (eqb-true _ _ past))))

any_at : (xs : List (Option ℕ)) (k table : ℕ) → slice_get xs k ≡ Some (Some table)
    → list_any (names table) xs ≡ true
any_at [] k table h = cc
any_at (x ∷ xs) zero table h =
    let same : Some table ≡ x = cc in
    subst (λ o. list_any (names table) (o ∷ xs) ≡ true) same
    (ap (λ b. b || list_any (names table) xs) (eq-eqb table table refl))
any_at (x ∷ xs) (suc k) table h = or_right (names table x) (list_any (names table) xs) (any_at xs k table h)

there_by : (b : Bool) (row most : ℕ) → nat_le row most ≡ true
    → cond b (cond b 0 row == 0) (nat_le (cond b 0 row) most) ≡ true
there_by true row most h = refl
there_by false row most h = h

tag_is : (layout : Layout) (coding : Coding) (row tag : ℕ) (o : Option (Option ℕ)) (cell : Cell)
    → slice_get (tag_tables coding) tag ≡ o → row_of_tag layout row o ≡ Some cell
    → is_coded (rows_of layout) coding cell ≡ true
tag_is layout coding row tag None cell e h = cc
tag_is layout coding row tag (Some None) cell e h = cc
tag_is layout coding row tag (Some (Some table)) cell e h =
    let skipped : Bool = is_skipped table in
    let is = chosen (nat_le row (rows_of layout table)) (Coded table (cond skipped 0 row)) cell h in
    subst (λ c. is_coded (rows_of layout) coding c ≡ true) is.1
    (and_from (list_any (names table) (tag_tables coding))
    (cond skipped (cond skipped 0 row == 0) (nat_le (cond skipped 0 row) (rows_of layout table)))
    (any_at (tag_tables coding) tag table e)
    (there_by skipped row (rows_of layout table) is.0))

-- ---- cells

cell_is : (bytes : StreamBytes) (layout : Layout) (column : Column) (least value : ℕ) (cell : Cell)
    → value < limit (width layout column) → cell_of bytes layout column least value ≡ Some cell
    → is_cell (rows_of layout) column cell ≡ true
cell_is bytes layout U8 least value cell low h =
    let same : Number value ≡ cell = cc in
    subst (λ c. is_cell (rows_of layout) U8 c ≡ true) same (lt-ltb _ _ low)
cell_is bytes layout U16 least value cell low h =
    let same : Number value ≡ cell = cc in
    subst (λ c. is_cell (rows_of layout) U16 c ≡ true) same (lt-ltb _ _ low)
cell_is bytes layout U32 least value cell low h =
    let same : Number value ≡ cell = cc in
    subst (λ c. is_cell (rows_of layout) U32 c ≡ true) same (lt-ltb _ _ low)
cell_is bytes layout StringIndex least value cell low h =
    let is = mapped Name (name_of bytes.strings value) cell h in
    subst (λ c. is_name c ≡ true) is.2 (name_by (value == 0 && length bytes.strings == 0) bytes.strings value is.0 is.1)
cell_is bytes layout GuidIndex least value cell low h =
    let is = mapped Blob (guid bytes.guid value) cell h in
    subst (λ c. is_guid c ≡ true) is.2 (guid_is bytes.guid value is.0 is.1)
cell_is bytes layout BlobIndex least value cell low h =
    let is = mapped Blob (blob_of bytes.blob value) cell h in
    subst (λ c. is_cell (rows_of layout) BlobIndex c ≡ true) is.2 refl
cell_is bytes layout (RowIndex table) least value cell low h = row_is 0 (rows_of layout table) value cell h
cell_is bytes layout (RunIndex table) least value cell low h = run_is least (rows_of layout table) value cell low h
cell_is bytes layout (CodedIndex coding) least value cell low h =
    tag_is layout coding (value / 2 ^ tag_bits coding) (value % 2 ^ tag_bits coding)
    (slice_get (tag_tables coding) (value % 2 ^ tag_bits coding)) cell refl h

pub fit_their_columns : CellsFitTheirColumns
fit_their_columns bytes layout column at back cell below h =
    cell_is bytes layout column (number_at bytes.tables (column_size layout column) (at - back))
    (number_at bytes.tables (column_size layout column) at) cell
    (number_below bytes.tables (width layout column) at below) h
