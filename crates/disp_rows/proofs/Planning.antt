-- Rows as they come into the array one after the other.
use Rattle.std.proofs.Common.{◌≡◌, ◌≢◌, ℕ, ◌+◌, ◌<◌, ◌≤◌, List, [], ◌∷◌, ◌++◌, length, map, get_or, slice_get, inl, inr}
use Rattle.std.proofs.Common.{Option, Some, None, refl, sym, ap, ◌∙◌, subst, arith}
use Rattle.std.proofs.lemmas.List.{get_or_append_left, get_or_push, length_push}
use Rattle.std.proofs.lemmas.Option.{slice_get-get_or, slice_get_past, slice_get-map}
use Rattle.std.proofs.lemmas.Bool.{cases_lt}
use Rattle.std.proofs.lemmas.Bool.Decides.{eqb_tells}
use Rattle.disp_rows.specs.declared.placed.Cell.{Cell}
use Rattle.disp_rows.specs.declared.place.Place.{Place}
use Rattle.disp_rows.specs.Rows.{cell_in, cell_if, cell_of}
use Rattle.disp_rows.specs.Layout.{held, held_behind}
use Rattle.disp_rows.specs.Places.{cell_at, cells_of}

-- the first rows are found, and no cell belongs to another row
pub record Planned (places : List Place) (starts : List ℕ) (rows : List (List (ℕ × ℕ))) (i : ℕ) : Type 0 where
  pub count : length starts ≡ i
  pub planned : (row column : ℕ) → row < i → held_behind (cells_of places) row column (slice_get starts row)
      ≡ cell_of rows row column
  pub fresh : (at row : ℕ) → i ≤ row → held (cell_at places at) row ≡ None

same_behind : (cells cells' : List (Option Cell)) (row column : ℕ) (start : Option ℕ) → ((at : ℕ) →
    held (get_or cells' at None) row ≡ held (get_or cells at None) row) →
    held_behind cells' row column start ≡ held_behind cells row column start
same_behind cells cells' row column None same = refl
same_behind cells cells' row column (Some start) same = same (start + column)

pub no_row : (rows : List (List (ℕ × ℕ))) → Planned [] [] rows 0
no_row rows = record {
  count = refl;
  planned = λ row column lt. absurd (omega arith);
  fresh = λ at row le. refl;
}

slice_get_before : (xs : List ℕ) (x : ℕ) (k : ℕ) → k < length xs → slice_get (xs ++ x ∷ []) k ≡ slice_get xs k
slice_get_before xs x k lt =
    slice_get-get_or (xs ++ x ∷ []) k 0 (omega (arith, length_push xs x))
    ∙ ap Some (get_or_append_left xs (x ∷ []) 0 k lt) ∙ sym (slice_get-get_or xs k 0 lt)

slice_get_last : (xs : List ℕ) (x : ℕ) (k : ℕ) → length xs ≡ k → slice_get (xs ++ x ∷ []) k ≡ Some x
slice_get_last xs x k e =
    slice_get-get_or (xs ++ x ∷ []) k 0 (omega (arith, length_push xs x)) ∙ ap Some (get_or_push xs x 0 k e)

pub one_planned : (was now : List Place) (starts : List ℕ) (rows : List (List (ℕ × ℕ))) (i start : ℕ) (row : List (ℕ
    × ℕ)) → slice_get rows i ≡ Some row → Planned was starts rows i → ((column : ℕ) → held (cell_at now (start
    + column)) i ≡ cell_in row column) → ((at other : ℕ) → other ≢ i → held (cell_at now at) other
    ≡ held (cell_at was at) other) → Planned now (starts ++ start ∷ []) rows (i + 1)
one_planned was now starts rows i start row is planned mine others = record {
  count = omega (arith, planned.count, length_push starts start);
  planned = λ r column lt. elim (eqb_tells r i) [
    | inl same ↦
        let P : ℕ → Type 0 = λ n. held_behind (cells_of now) n column (slice_get (starts ++ start ∷ []) n)
        ≡ cell_of rows n column in
        subst P (sym same.1) (ap (held_behind (cells_of now) i column) (slice_get_last starts start i planned.count)
        ∙ mine column ∙ sym (ap (λ o. cell_if o column) is))
    | inr other ↦
        let below : r < i = omega (arith, other.1) in
        ap (held_behind (cells_of now) r column) (slice_get_before starts start r (omega (arith, planned.count)))
        ∙ same_behind (cells_of was) (cells_of now) r column (slice_get starts r) (λ at. others at r other.1)
        ∙ planned.planned r column below
  ];
  fresh = λ at r le. others at r (λ e. absurd (omega arith)) ∙ planned.fresh at r (omega arith);
}

-- where all rows are in the array, each is found, and no other
pub all_planned : (places : List Place) (starts : List ℕ) (rows : List (List (ℕ × ℕ))) (i : ℕ) → length rows ≡ i →
    Planned places starts rows i → (row column : ℕ) → held_behind (cells_of places) row column (slice_get starts row)
    ≡ cell_of rows row column
all_planned places starts rows i e planned row column = elim (cases_lt row i) [
  | inl lt ↦ planned.planned row column lt
  | inr le ↦
      ap (held_behind (cells_of places) row column) (slice_get_past starts row (omega (arith, planned.count)))
      ∙ sym (ap (λ o. cell_if o column) (slice_get_past rows row (omega arith)))
]
