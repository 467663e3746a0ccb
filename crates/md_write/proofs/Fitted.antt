-- The number of each cell fits its column.
use Rattle.std.proofs.Common.{◌≡◌, ◌∙◌, ℕ, ◌+◌, ◌-◌, ◌*◌, ◌^◌, ◌<◌, ◌≤◌, ◌==◌, ◌&&◌, ◌||◌, Bool, true, false}
use Rattle.std.proofs.Common.{cond, not, nat_le, List, [], ◌∷◌, length, Option, Some, None, ap, refl, sym, subst}
use Rattle.std.proofs.Common.{arith, inl, inr, lit<, lit≤}
use Rattle.std.specs.Prelude.{position}
use Rattle.std.specs.List.{list_any}
use Rattle.std.proofs.lemmas.Bool.{false≢true, eqb-true, eq-eqb, leb-true, leb-false, ltb-true, and_parts}
use Rattle.std.proofs.lemmas.Bool.{or_parts, cases_lt, and_from}
use Rattle.std.proofs.lemmas.List.Quantifiers.{position-Some}
use Rattle.std.proofs.Math.Nat.{mul-le-mul_left, mul-le-mul_right}
use Rattle.md_rows.specs.declared.cell.Cell.{Cell}
use Rattle.md_rows.specs.declared.cell.Cell.TheVariants.{Number, Name, Blob, Index, Coded}
use Rattle.md_rows.specs.declared.coding.Coding.{Coding}
use Rattle.md_rows.specs.declared.coding.Coding.TheVariants.{TypeDefOrRef, HasConstant, HasCustomAttribute}
use Rattle.md_rows.specs.declared.coding.Coding.TheVariants.{HasFieldMarshal, HasDeclSecurity, MemberRefParent}
use Rattle.md_rows.specs.declared.coding.Coding.TheVariants.{HasSemantics, MethodDefOrRef, MemberForwarded}
use Rattle.md_rows.specs.declared.coding.Coding.TheVariants.{Implementation, CustomAttributeType, ResolutionScope}
use Rattle.md_rows.specs.declared.coding.Coding.TheVariants.{TypeOrMethodDef}
use Rattle.md_rows.specs.declared.layout.Layout.{Layout}
use Rattle.md_rows.specs.declared.schema.Column.{Column}
use Rattle.md_rows.specs.declared.schema.Column.TheVariants.{U8, U16, U32, StringIndex, GuidIndex, BlobIndex}
use Rattle.md_rows.specs.declared.schema.Column.TheVariants.{RowIndex, RunIndex, CodedIndex}
use Rattle.md_rows.specs.Tables.{TableSchema, tag_bits, tag_tables, is_skipped}
use Rattle.md_rows.specs.Widths.{size_of, wide_if, or_zero, rows_of, tag_rows, is_wide_coding, column_size}
use Rattle.md_rows.specs.Fits.{names, is_cell, are_cells}
use Rattle.md_tables.specs.declared.module.TableRow.{TableRow}
use Rattle.md_tables.specs.Modules.{is_row}
use Rattle.md_write.specs.declared.heaps.Heaps.{Heaps}
use Rattle.md_write.specs.Heap.{index_of}
use Rattle.md_write.specs.Heaps.{own_cells}
use Rattle.md_write.specs.Rows.{names as names_tag, tag_of, coded_number, cell_number}
use Rattle.md_write.proofs.Numbers.{cells_numbers}
use Rattle.md_write.proofs.Owned.{own_fit}

-- ---- indexes

-- an index into so many
pub index_low : (b : Bool) (index size : ℕ) → nat_le (2 ^ 16) size ≡ b → index ≤ size → size < 2 ^ 32
    → index < 256 ^ size_of (wide_if b)
index_low true index size e le small = omega (arith, le, small)
index_low false index size e le small = let few : size < 2 ^ 16 = leb-false (2 ^ 16) size e in omega (arith, le, few)

run_low : (b : Bool) (row count : ℕ) → nat_le (2 ^ 16) count ≡ b → row ≤ count + 1 → count < 2 ^ 24
    → not (count == 0xFFFF && row == 0x1_0000) ≡ true → row < 256 ^ size_of (wide_if b)
run_low true row count e le few apart = omega (arith, le, few)
run_low false row count e le few apart =
    let less : count < 2 ^ 16 = leb-false (2 ^ 16) count e in
    elim (cases_lt row 0x1_0000) [
      | inl low ↦ low
      | inr past ↦ absurd (full (omega (arith, le, less, past)) (omega (arith, le, less, past)))
    ]
  where
    full : count ≡ 0xFFFF → row ≡ 0x1_0000 → ⊥
    full all behind =
        let both : (count == 0xFFFF && row == 0x1_0000) ≡ true =
        and_from (count == 0xFFFF) (row == 0x1_0000) (eq-eqb count 0xFFFF all) (eq-eqb row 0x1_0000 behind) in
        false≢true (sym (ap not both) ∙ apart)

-- ---- coded indexes

coding_sizes : (coding : Coding) → (2 ^ (16 - tag_bits coding) * 2 ^ tag_bits coding ≡ 2 ^ 16)
    × (length (tag_tables coding) ≤ 2 ^ tag_bits coding) × (2 ^ tag_bits coding ≤ 32) × (0 < 2 ^ tag_bits coding)
coding_sizes TypeDefOrRef = (refl, lit≤ tt, lit≤ tt, lit< tt)
coding_sizes HasConstant = (refl, lit≤ tt, lit≤ tt, lit< tt)
coding_sizes HasCustomAttribute = (refl, lit≤ tt, lit≤ tt, lit< tt)
coding_sizes HasFieldMarshal = (refl, lit≤ tt, lit≤ tt, lit< tt)
coding_sizes HasDeclSecurity = (refl, lit≤ tt, lit≤ tt, lit< tt)
coding_sizes MemberRefParent = (refl, lit≤ tt, lit≤ tt, lit< tt)
coding_sizes HasSemantics = (refl, lit≤ tt, lit≤ tt, lit< tt)
coding_sizes MethodDefOrRef = (refl, lit≤ tt, lit≤ tt, lit< tt)
coding_sizes MemberForwarded = (refl, lit≤ tt, lit≤ tt, lit< tt)
coding_sizes Implementation = (refl, lit≤ tt, lit≤ tt, lit< tt)
coding_sizes CustomAttributeType = (refl, lit≤ tt, lit≤ tt, lit< tt)
coding_sizes ResolutionScope = (refl, lit≤ tt, lit≤ tt, lit< tt)
coding_sizes TypeOrMethodDef = (refl, lit≤ tt, lit≤ tt, lit< tt)

pub tag_low : (coding : Coding) (table : ℕ) → tag_of coding table < 2 ^ tag_bits coding
tag_low coding table = by (position (names_tag table) (tag_tables coding)) refl
  where
    by : (found : Option ℕ) → position (names_tag table) (tag_tables coding) ≡ found
        → or_zero found < 2 ^ tag_bits coding
    by None e = (coding_sizes coding).3
    by (Some tag) e =
        let there = position-Some (names_tag table) (tag_tables coding) tag None e in
        omega (arith, there.0, (coding_sizes coding).1)

-- a table that a tag names has few rows where no table of a tag has many
few_named : (layout : Layout) (limit table : ℕ) (tags : List (Option ℕ)) → list_any (names table) tags ≡ true
    → list_any (λ tag. nat_le limit (tag_rows layout tag)) tags ≡ false → rows_of layout table < limit
few_named layout limit table [] named none = absurd (false≢true named)
few_named layout limit table (None ∷ tags) named none =
    few_named layout limit table tags named
    (or_parts (nat_le limit 0) (list_any (λ tag. nat_le limit (tag_rows layout tag)) tags) none).1
few_named layout limit table (Some other ∷ tags) named none =
    let parts = or_parts (nat_le limit (rows_of layout other))
    (list_any (λ tag. nat_le limit (tag_rows layout tag)) tags) none in
    by (other == table) refl named (leb-false limit (rows_of layout other) parts.0)
    (λ named. few_named layout limit table tags named parts.1)
  where
    by : (b : Bool) → (other == table) ≡ b → (b || list_any (names table) tags) ≡ true → rows_of layout other < limit
        → (list_any (names table) tags ≡ true → rows_of layout table < limit) → rows_of layout table < limit
    by true e named few next = subst (λ t. rows_of layout t < limit) (eqb-true other table e) few
    by false e named few next = next named

coded_low : (b : Bool) (row tag power limit : ℕ) → tag < power → power ≤ 32 → limit * power ≡ 2 ^ 16
    → (b ≡ false → row < limit) → row < 2 ^ 24 → row * power + tag < 256 ^ size_of (wide_if b)
coded_low true row tag power limit tagged most whole few small =
    let le : row * power ≤ row * 32 = mul-le-mul_left row most in omega (arith, le, small, tagged, most)
coded_low false row tag power limit tagged most whole few small =
    let less : row + 1 ≤ limit = omega (arith, few refl) in
    let le : (row + 1) * power ≤ limit * power = mul-le-mul_right power less in
    omega (arith, le, whole, tagged)

row_by : (b : Bool) (row count : ℕ) → cond b (row == 0) (nat_le row count) ≡ true → row ≤ count
row_by true row count h = omega (arith, eqb-true row 0 h)
row_by false row count h = leb-true row count h

-- ---- cells

-- What is known of heaps and of a layout: each index into a heap fits, and no table has too many rows.
pub record IsRoomy (heaps : Heaps) (layout : Layout) (rows : ℕ → ℕ) : Type 0 where
  pub strings : (text : List ℕ) → index_of heaps.strings text < 256 ^ size_of (wide_if layout.wide_strings)
  pub guids : (bytes : List ℕ) → index_of heaps.guids bytes < 256 ^ size_of (wide_if layout.wide_guids)
  pub blobs : (bytes : List ℕ) → index_of heaps.blobs bytes < 256 ^ size_of (wide_if layout.wide_blobs)
  pub counts : (table : ℕ) → rows_of layout table ≡ rows table
  pub few : (table : ℕ) → rows table < 2 ^ 24

module _ (heaps : Heaps) (layout : Layout) (rows : ℕ → ℕ) (room : IsRoomy heaps layout rows) where
  row_fits : (table row : ℕ) → nat_le row (rows table) ≡ true
      → row < 256 ^ column_size layout (RowIndex table)
  row_fits table row h =
      let le : row ≤ rows table = leb-true row (rows table) h in
      index_low (nat_le (2 ^ 16) (rows_of layout table)) row (rows_of layout table) refl
      (omega (arith, le, room.counts table)) (omega (arith, room.few table, room.counts table))

  run_fits : (table row : ℕ)
      → (nat_le row (rows table + 1) && not (rows table == 0xFFFF && row == 0x1_0000)) ≡ true
      → row < 256 ^ column_size layout (RunIndex table)
  run_fits table row h =
      let parts = and_parts (nat_le row (rows table + 1)) (not (rows table == 0xFFFF && row == 0x1_0000)) h in
      let same : nat_le (2 ^ 16) (rows_of layout table) ≡ nat_le (2 ^ 16) (rows table) =
      ap (nat_le (2 ^ 16)) (room.counts table) in
      subst (λ b. row < 256 ^ size_of (wide_if b)) (sym same)
      (run_low (nat_le (2 ^ 16) (rows table)) row (rows table) refl
      (leb-true row (rows table + 1) parts.0) (room.few table) parts.1)

  coded_fits : (coding : Coding) (table row : ℕ)
      → (list_any (names table) (tag_tables coding)
      && cond (is_skipped table) (row == 0) (nat_le row (rows table))) ≡ true
      → coded_number coding table row < 256 ^ column_size layout (CodedIndex coding)
  coded_fits coding table row h =
      let parts = and_parts (list_any (names table) (tag_tables coding))
      (cond (is_skipped table) (row == 0) (nat_le row (rows table))) h in
      let le : row ≤ rows table = row_by (is_skipped table) row (rows table) parts.1 in
      let sizes = coding_sizes coding in
      coded_low (is_wide_coding layout coding) row (tag_of coding table) (2 ^ tag_bits coding)
      (2 ^ (16 - tag_bits coding)) (tag_low coding table) sizes.2 sizes.0
      (λ narrow.
      let few : rows_of layout table < 2 ^ (16 - tag_bits coding) =
      few_named layout (2 ^ (16 - tag_bits coding)) table (tag_tables coding) parts.0 narrow in
      omega (arith, few, le, room.counts table)) (omega (arith, le, room.few table))

  pub cell_fits : (column : Column) (cell : Cell) → is_cell rows column cell ≡ true
      → cell_number heaps column cell < 256 ^ column_size layout column
  cell_fits U8 (Number number) h = ltb-true number 0x100 h
  cell_fits U8 cell h = absurd (false≢true h)
  cell_fits U16 (Number number) h = ltb-true number 0x1_0000 h
  cell_fits U16 cell h = absurd (false≢true h)
  cell_fits U32 (Number number) h = ltb-true number 0x1_0000_0000 h
  cell_fits U32 cell h = absurd (false≢true h)
  cell_fits StringIndex (Name text) h = room.strings text
  cell_fits StringIndex cell h = absurd (false≢true h)
  cell_fits GuidIndex (Blob bytes) h = room.guids bytes
  cell_fits GuidIndex cell h = absurd (false≢true h)
  cell_fits BlobIndex (Blob bytes) h = room.blobs bytes
  cell_fits BlobIndex cell h = absurd (false≢true h)
  cell_fits (RowIndex table) (Index row) h = row_fits table row h
  cell_fits (RowIndex table) cell h = absurd (false≢true h)
  cell_fits (RunIndex table) (Index row) h = run_fits table row h
  cell_fits (RunIndex table) cell h = absurd (false≢true h)
  cell_fits (CodedIndex coding) (Coded table row) h = coded_fits coding table row h
  cell_fits (CodedIndex coding) cell h = absurd (false≢true h)

-- ---- rows

-- a number for each column, which it holds
abbrev pub NumbersFit : Layout → List Column → List ℕ → Type 0
NumbersFit layout [] numbers = Unit {0}
NumbersFit layout (column ∷ columns) [] = ⊥
NumbersFit layout (column ∷ columns) (number ∷ numbers) =
    (number < 256 ^ column_size layout column) × NumbersFit layout columns numbers

module _ (heaps : Heaps) (layout : Layout) (rows : ℕ → ℕ) (room : IsRoomy heaps layout rows) where
  cells_fit : (columns : List Column) (cells : List Cell) → are_cells rows columns cells ≡ true
      → NumbersFit layout columns (cells_numbers heaps columns cells)
  cells_fit [] cells h = tt
  cells_fit (column ∷ columns) [] h = absurd (false≢true h)
  cells_fit (column ∷ columns) (cell ∷ cells) h =
      let parts = and_parts (is_cell rows column cell) (are_cells rows columns cells) h in
      (cell_fits heaps layout rows room column cell parts.0, cells_fit columns cells parts.1)

  -- the numbers of a row fit its columns
  pub row_fit : (schema : TableSchema) (row : TableRow) → is_row rows schema row ≡ true
      → NumbersFit layout schema.columns (cells_numbers heaps schema.columns (own_cells schema.number row))
  row_fit schema row h =
      cells_fit schema.columns (own_cells schema.number row) (own_fit rows schema row h)
