-- One more column, and where columns end.
use Rattle.std.proofs.Common.{◌≡◌, ◌∙◌, ℕ, suc, ◌+◌, ◌<◌, List, [], ◌∷◌, ◌++◌, length, drop, get_or, ap, refl, sym}
use Rattle.std.proofs.Common.{arith, drop-cons, drop_of_length-le, ltb-true, ltb-false, true, false, nat_lt}
use Rattle.std.proofs.lemmas.List.{append-nil}
use Rattle.md_rows.specs.declared.cell.Cell.{Cell}
use Rattle.md_rows.specs.declared.layout.Layout.{Layout}
use Rattle.md_rows.specs.declared.schema.Column.{Column}
use Rattle.md_write.specs.declared.heaps.Heaps.{Heaps}
use Rattle.md_write.specs.Heaps.{with_cell, with_cells}
use Rattle.md_write.specs.Rows.{cells_bytes}

-- columns without cells
with_no_cells : (heaps : Heaps) (columns : List Column) → with_cells heaps columns [] ≡ heaps
with_no_cells heaps [] = refl
with_no_cells heaps (column ∷ columns) = refl

no_cells_bytes : (heaps : Heaps) (layout : Layout) (columns : List Column) → cells_bytes heaps layout columns [] ≡ []
no_cells_bytes heaps layout [] = refl
no_cells_bytes heaps layout (column ∷ columns) = refl

pub cells_end : (heaps : Heaps) (columns : List Column) (cells : List Cell) (i : ℕ) → false ≡ nat_lt i (length cells)
    → with_cells heaps (drop i columns) (drop i cells) ≡ heaps
cells_end heaps columns cells i past =
    ap (λ c. with_cells heaps (drop i columns) c) (drop_of_length-le cells (ltb-false i (length cells) (sym past)))
    ∙ with_no_cells heaps (drop i columns)

pub bytes_end : (old : List ℕ) (heaps : Heaps) (layout : Layout) (columns : List Column) (cells : List Cell) (i : ℕ)
    → false ≡ nat_lt i (length cells) → old ++ cells_bytes heaps layout (drop i columns) (drop i cells) ≡ old
bytes_end old heaps layout columns cells i past =
    ap (λ c. old ++ cells_bytes heaps layout (drop i columns) c)
    (drop_of_length-le cells (ltb-false i (length cells) (sym past)))
    ∙ (ap (λ b. old ++ b) (no_cells_bytes heaps layout (drop i columns)) ∙ append-nil old)

one_left : {A : Type 0} (xs : List A) (i : ℕ) (x : A) → i < length xs → drop i xs ≡ get_or xs i x ∷ drop (i + 1) xs
one_left xs i x there =
    drop-cons xs i x there ∙ (let e : suc i ≡ i + 1 = omega arith in ap (λ n. get_or xs i x ∷ drop n xs) e)

-- one more column with its cell
pub with_cells_on : (heaps new : Heaps) (columns : List Column) (cells : List Cell) (i : ℕ) (column : Column)
    (cell : Cell) → i < length columns → true ≡ nat_lt i (length cells) → cell ≡ get_or cells i cell
    → new ≡ with_cell heaps (get_or columns i column) cell
    → with_cells heaps (drop i columns) (drop i cells) ≡ with_cells new (drop (i + 1) columns) (drop (i + 1) cells)
with_cells_on heaps new columns cells i column cell there also is given =
    ap (λ c. with_cells heaps c (drop i cells)) (one_left columns i column there)
    ∙ (ap (λ c. with_cells heaps (get_or columns i column ∷ drop (i + 1) columns) c)
    (one_left cells i cell (ltb-true i (length cells) (sym also)))
    ∙ (ap (λ x. with_cells (with_cell heaps (get_or columns i column) x) (drop (i + 1) columns) (drop (i + 1) cells))
    (sym is)
    ∙ ap (λ h. with_cells h (drop (i + 1) columns) (drop (i + 1) cells)) (sym given)))
