-- The cells of a row, one by one.
use Rattle.std.proofs.Common.{◌≡◌, ◌≢◌, ℕ, zero, suc, ◌<◌, List, [], ◌∷◌, ◌++◌, length, cond, eqb, true, false, inl}
use Rattle.std.proofs.Common.{inr, Option, Some, None, sym, ap, ◌∙◌, arith}
use Rattle.std.proofs.lemmas.Bool.Decides.{eqb_tells}
use Rattle.disp_rows.specs.Rows.{cell_in, AreDistinctColumns}
use Rattle.disp_rows.specs.Places.{column_of}

-- one more cell at the end
pub more_off : (cells : List (ℕ × ℕ)) (cell : ℕ × ℕ) (column : ℕ) → eqb column cell.0 ≡ false →
    cell_in (cells ++ cell ∷ []) column ≡ cell_in cells column
more_off [] cell column off = ap (λ b. cond b (Some cell.1) None) off
more_off (c ∷ cells) cell column off = ap (cond (eqb column c.0) (Some c.1)) (more_off cells cell column off)

absent_behind : (c : ℕ × ℕ) (cells : List (ℕ × ℕ)) (column : ℕ) → cell_in (c ∷ cells) column ≡ None →
    (eqb column c.0 ≡ false) × (column ≢ c.0) × (cell_in cells column ≡ None)
absent_behind c cells column none =
    elim (eqb_tells column c.0) [
      | inl same ↦
          let never : Some c.1 ≡ None = sym (ap (λ b. cond b (Some c.1) (cell_in cells column)) same.0) ∙ none in cc
      | inr other ↦
          (other.0, other.1, sym (ap (λ b. cond b (Some c.1) (cell_in cells column)) other.0) ∙ none)
    ]

pub more_at : (cells : List (ℕ × ℕ)) (cell : ℕ × ℕ) (column : ℕ) → cell_in cells column ≡ None → eqb column cell.0
    ≡ true → cell_in (cells ++ cell ∷ []) column ≡ Some cell.1
more_at [] cell column none at = ap (λ b. cond b (Some cell.1) None) at
more_at (c ∷ cells) cell column none at =
    let behind = absent_behind c cells column none in
    ap (λ b. cond b (Some c.1) (cell_in (cells ++ cell ∷ []) column)) behind.0
    ∙ more_at cells cell column behind.2 at

absent : (cells : List (ℕ × ℕ)) (column : ℕ) → cell_in cells column ≡ None → (k : ℕ) → k < length cells → column
    ≢ column_of cells k
absent [] column none k lt = absurd (omega arith)
absent (c ∷ cells) column none zero lt = (absent_behind c cells column none).1
absent (c ∷ cells) column none (suc k) lt =
    absent cells column (absent_behind c cells column none).2 k (omega arith)

-- no two columns of a row are the same
pub differ : (cells : List (ℕ × ℕ)) → AreDistinctColumns cells → (j k : ℕ) → j < k → k < length cells → column_of
    cells j ≢ column_of cells k
differ [] distinct j k lt within = absurd (omega arith)
differ (c ∷ cells) distinct zero zero lt within = absurd (omega arith)
differ (c ∷ cells) distinct zero (suc k) lt within = absent cells c.0 distinct.0 k (omega arith)
differ (c ∷ cells) distinct (suc j) zero lt within = absurd (omega arith)
differ (c ∷ cells) distinct (suc j) (suc k) lt within = differ cells distinct.1 j k (omega arith) (omega arith)
