-- A search by halves among instructions whose offsets rise.
use Rattle.std.proofs.Common.{◌≡◌, ◌⊎◌, inl, inr, ℕ, ◌<◌, ◌≤◌, true, false, nat_eq, eq-eqb, List, [], ◌∷◌, length}
use Rattle.std.proofs.Common.{slice_index_or, Result, Ok, Err, sym, subst, arith, All, ◌∙◌}
use Rattle.std.specs.Result.{is_ok}
use Rattle.std.specs.List.Sorted.{IsSearchInRange, IsBinarySearchResult, IsNonDecreasingBy}
use Rattle.std.specs.Ordering.{nat_cmp, ordering_index}
use Rattle.std.proofs.lemmas.Bool.Decides.{nat_tests}
use Rattle.std.proofs.lemmas.Cmp.{ranked}
use Rattle.std.proofs.lemmas.Grind.{common_steps}
use Rattle.std.proofs.lemmas.List.Folds.{list_any_at, list_any_none}
use Rattle.il_code.specs.Listing.{AreRising, is_boundary}
use Rattle.il_code.specs.declared.body.Instr.{Instr}

less_or_same : (i j : ℕ) → i ≤ j → (i < j) ⊎ (i ≡ j)
less_or_same i j le = grind (arith, le)

-- the comparisons with an offset rise too
comparisons_rise : (instrs : List Instr) (offset : ℕ) → AreRising instrs
    → IsNonDecreasingBy (λ i. ordering_index (nat_cmp i.at offset)) instrs
comparisons_rise instrs offset rising i j d le inside = elim (less_or_same i j le) [
  | inl less ↦ let keys : (slice_index_or instrs i d).at < (slice_index_or instrs j d).at = rising i j d less inside in
      grind (arith, nat_tests)
  | inr same ↦ subst (λ n. ordering_index (nat_cmp (slice_index_or instrs i d).at offset) ≤ ordering_index
      (nat_cmp (slice_index_or instrs n d).at offset)) same (omega arith)
]

found_at : (instrs : List Instr) (offset n : ℕ) → n < length instrs
    → ((d : Instr) → (slice_index_or instrs n d).at ≡ offset) → is_boundary instrs offset ≡ true
found_at [] offset n inside here = absurd (omega (arith, inside))
found_at (i ∷ instrs) offset n inside here =
    list_any_at (λ i. nat_eq i.at offset) (i ∷ instrs) n i inside (eq-eqb _ offset (here i))

-- what the search tells
pub searched : (instrs : List Instr) (offset : ℕ) (r : Result ℕ ℕ) → AreRising instrs
    → IsSearchInRange r (length instrs) → IsBinarySearchResult (λ i. nat_cmp i.at offset) instrs r
    → is_ok r ≡ is_boundary instrs offset
searched instrs offset (Ok n) rising inside equal =
    sym (found_at instrs offset n inside (λ d. ranked _ offset _ (sym (equal d))))
searched instrs offset (Err n) rising inside parted =
    let split = parted (comparisons_rise instrs offset rising) in
    sym (list_any_none (λ i. nat_eq i.at offset) instrs (λ j d less.
    let other : nat_eq (slice_index_or instrs j d).at offset ≡ false =
    grind (
      arith,
      nat_tests,
      common_steps,
      λ (below : j < n). ranked _ offset _
          (sym (split.0 j d (omega arith) below)),
      λ (above : n ≤ j). ranked _ offset _ (sym (split.1 j d above less)),
    ) in
    other))

-- an instruction that the search finds stands at the offset
pub stands_at : (instrs : List Instr) (offset n : ℕ) → IsBinarySearchResult (λ i. nat_cmp i.at offset) instrs (Ok n)
    → (d : Instr) → (slice_index_or instrs n d).at ≡ offset
stands_at instrs offset n equal d = ranked _ offset _ (sym (equal d))

-- where none stands at the offset, no instruction has it
pub none_stands_at : (instrs : List Instr) (offset : ℕ) → is_boundary instrs offset ≡ false
    → All (λ i. ¬ (i.at ≡ offset)) instrs
none_stands_at instrs offset none = λ k d inside here.
    let there : is_boundary instrs offset ≡ true =
    list_any_at (λ i. nat_eq i.at offset) instrs k d inside (eq-eqb _ offset here) in
    let both : true ≡ false = sym there ∙ none in
    cc
