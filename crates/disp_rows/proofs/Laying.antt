-- A row as its cells take their places.
use Rattle.std.proofs.Common.{◌≡◌, ◌≢◌, ℕ, ◌+◌, ◌^◌, ◌<◌, ◌≤◌, List, [], ◌∷◌, ◌++◌, length, get_or, set, take}
use Rattle.std.proofs.Common.{slice_get, eqb, true, false, if◌then◌else◌, inl, inr, Option, Some, None, refl, sym, ap}
use Rattle.std.proofs.Common.{◌∙◌, subst, arith, get_or-set_same, get_or-set_other, length-set}
use Rattle.std.proofs.lemmas.List.{take_more, length-map}
use Rattle.std.specs.Option.{unwrap_or}
use Rattle.std.proofs.lemmas.Option.{unwrap_or-slice_get}
use Rattle.std.proofs.lemmas.Bool.{ne_eqb}
use Rattle.std.proofs.lemmas.Bool.Decides.{eqb_tells}
use Rattle.disp_rows.specs.declared.placed.Cell.{Cell}
use Rattle.disp_rows.specs.declared.place.Place.{Place}
use Rattle.disp_rows.specs.Rows.{cell_in, AreDistinctColumns}
use Rattle.disp_rows.specs.Layout.{held}
use Rattle.disp_rows.specs.Places.{cell_at, cells_of, column_of, Fits, Reaches}
use Rattle.disp_rows.proofs.Rows.{more_off, more_at, differ}

abbrev cell : ℕ → ℕ → Cell
cell row value = record { row = row; value = value }

eqb_same : (n : ℕ) → eqb n n ≡ true
eqb_same n = elim (eqb_tells n n) [ inl same ↦ same.0 | inr other ↦ absurd (other.1 refl) ]

pub held_own : (row value : ℕ) → held (Some (cell row value)) row ≡ Some value
held_own row value = ap (λ b. (if b then Some value else None)) (eqb_same row)

pub held_other : (row value other : ℕ) → other ≢ row → held (Some (cell row value)) other ≡ None
held_other row value other ne = ap (λ b. (if b then Some value else None)) (ne_eqb other row ne)

-- a cell that was read, or none behind the end
pub held_at : (cells : List (Option Cell)) (at : ℕ) (read : Option (Option Cell)) (row : ℕ)
    → read ≡ slice_get cells at →
    held (unwrap_or read None) row ≡ held (get_or cells at None) row
held_at cells at read row e =
    ap (λ c. held c row) (ap (λ o. unwrap_or o None) e ∙ unwrap_or-slice_get cells at None)

-- the first cells of a row have their places, and those of the others are free
pub record Laid (was now : List Place) (cells : List (ℕ × ℕ)) (row start i : ℕ) : Type 0 where
  pub mine : (column : ℕ) → held (cell_at now (start + column)) row ≡ cell_in (take i cells) column
  pub others : (at other : ℕ) → other ≢ row → held (cell_at now at) other ≡ held (cell_at was at) other
  pub free : (k : ℕ) → i ≤ k → k < length cells → cell_at now (start + column_of cells k) ≡ None
  pub reach : Reaches now cells start

pub none_laid : (was : List Place) (cells : List (ℕ × ℕ)) (row start : ℕ) → Fits was cells start →
    Reaches was cells start → ((at : ℕ) → held (cell_at was at) row ≡ None) → Laid was was cells row start 0
none_laid was cells row start fits reach fresh = record {
  mine = λ column. fresh (start + column);
  others = λ at other ne. refl;
  free = λ k le lt. (fits k lt).1;
  reach = reach;
}

-- a cell at one place, and the others as they were
set_at : (cells : List (Option Cell)) (at : ℕ) (c : Cell) (p : ℕ) → at < length cells → p ≡ at →
    get_or (set cells at (Some c)) p None ≡ Some c
set_at cells at c p lt e =
    ap (λ q. get_or (set cells at (Some c)) q None) e ∙ get_or-set_same cells at (Some c) None lt

pub one_laid : (was now next : List Place) (cells : List (ℕ × ℕ)) (row start i : ℕ) → AreDistinctColumns cells →
    i < length cells → Laid was now cells row start i → cells_of next ≡ set (cells_of now) (start + column_of cells i)
    (Some (cell row (get_or cells i (0, 0)).1)) → Laid was next cells row start (i + 1)
one_laid was now next cells row start i distinct within laid is =
    let here = start + column_of cells i in
    let it = get_or cells i (0, 0) in
    let c = cell row it.1 in
    let there : here < length (cells_of now) = omega (arith, laid.reach i within, length-map now (λ p. p.cell)) in
    let at_here : (p : ℕ) → p ≡ here → cell_at next p ≡ Some c = λ p e.
    ap (λ l. get_or l p None) is ∙ set_at (cells_of now) here c p there e in
    let off : (p : ℕ) → p ≢ here → cell_at next p ≡ cell_at now p = λ p ne.
    ap (λ l. get_or l p None) is ∙ get_or-set_other (cells_of now) here p (Some c) None ne in
    let long : length next ≡ length now = omega (
      arith,
      ap length is,
      length-set (cells_of now) here (Some c),
      length-map now (λ p. p.cell),
      length-map next (λ p. p.cell),
    ) in
    let more : take (i + 1) cells ≡ take i cells ++ it ∷ [] = take_more cells i (0, 0) within in
    let none : cell_in (take i cells) it.0 ≡ None =
    sym (laid.mine it.0) ∙ ap (λ o. held o row) (laid.free i (omega arith) within) in
    record {
      mine = λ column. elim (eqb_tells column it.0) [
        | inl same ↦
            ap (λ o. held o row) (at_here (start + column) (ap (λ n. start + n) same.1)) ∙ held_own row it.1
            ∙ sym (ap (λ l. cell_in l column) more
            ∙ more_at (take i cells) it column (ap (cell_in (take i cells)) same.1 ∙ none) same.0)
        | inr other ↦
            ap (λ o. held o row) (off (start + column) (λ e. other.1 (omega arith))) ∙ laid.mine column
            ∙ sym (ap (λ l. cell_in l column) more ∙ more_off (take i cells) it column other.0)
      ];
      others = λ at other ne. elim (eqb_tells at here) [
        | inl same ↦
            ap (λ o. held o other) (at_here at same.1) ∙ held_other row it.1 other ne
            ∙ sym (sym (laid.others at other ne)
            ∙ ap (λ o. held o other) (ap (cell_at now) same.1 ∙ laid.free i (omega arith) within))
        | inr off_here ↦ ap (λ o. held o other) (off at off_here.1) ∙ laid.others at other ne
      ];
      free = λ k le lt.
          off (start + column_of cells k) (λ e. differ cells distinct i k (omega arith) lt (omega arith))
          ∙ laid.free k (omega arith) lt;
      reach = λ k lt. omega (arith, laid.reach k lt, long);
    }
