-- A search by halves among steps whose offsets rise.
use Rattle.std.proofs.Common.{◌≡◌, ◌⊎◌, inl, inr, ℕ, zero, suc, ◌+◌, ◌<◌, ◌≤◌, nat_le, true, List, [], ◌∷◌}
use Rattle.std.proofs.Common.{length, slice_index_or, Ok, Err, sym, subst, arith, All}
use Rattle.std.proofs.lemmas.Bool.{and_parts, leb-true}
use Rattle.std.specs.List.Sorted.{IsBinarySearchResult, IsNonDecreasingBy}
use Rattle.std.specs.Ordering.{nat_cmp, ordering_index}
use Rattle.std.proofs.lemmas.Bool.Decides.{nat_tests}
use Rattle.std.proofs.lemmas.Cmp.{ranked}
use Rattle.il_stacks.specs.declared.effect.Step.{Step}
use Rattle.il_stacks.specs.Flow.{AreRising, steps_rise}

less_or_same : (i j : ℕ) → i ≤ j → (i < j) ⊎ (i ≡ j)
less_or_same i j le = grind (arith, le)

-- the comparisons with an offset rise too
comparisons_rise : (steps : List Step) (offset : ℕ) → AreRising steps
    → IsNonDecreasingBy (λ (s : Step). ordering_index (nat_cmp s.at offset)) steps
comparisons_rise steps offset rising i j d le inside = elim (less_or_same i j le) [
  | inl less ↦ let keys : (slice_index_or steps i d).at < (slice_index_or steps j d).at = rising i j d less inside in
      grind (arith, nat_tests)
  | inr same ↦ subst (λ n. ordering_index (nat_cmp (slice_index_or steps i d).at offset) ≤ ordering_index
      (nat_cmp (slice_index_or steps n d).at offset)) same (omega arith)
]

-- a step that the search finds stands at the offset
pub stands_at : (steps : List Step) (offset n : ℕ)
    → IsBinarySearchResult (λ (s : Step). nat_cmp s.at offset) steps (Ok n)
    → (d : Step) → (slice_index_or steps n d).at ≡ offset
stands_at steps offset n equal d = ranked _ offset _ (sym (equal d))

-- where it finds none, no step has the offset
pub none_stands_at : (steps : List Step) (offset n : ℕ) → AreRising steps
    → IsBinarySearchResult (λ (s : Step). nat_cmp s.at offset) steps (Err n)
    → All (λ (s : Step). ¬ (s.at ≡ offset)) steps
none_stands_at steps offset n rising parted = λ k d inside here.
    let split = parted (comparisons_rise steps offset rising) in
    grind (
      arith,
      nat_tests,
      here,
      λ (below : k < n). ranked _ offset _ (sym (split.0 k d (omega arith) below)),
      λ (above : n ≤ k). ranked _ offset _ (sym (split.1 k d above inside)),
    )

-- ---- offsets that rise

at_least : (low : ℕ) (steps : List Step) (j : ℕ) (d : Step) → steps_rise low steps ≡ true → j < length steps
    → low ≤ (slice_index_or steps j d).at
at_least low [] j d h inside = absurd (omega arith)
at_least low (step ∷ steps) zero d h inside =
    leb-true low step.at (and_parts (nat_le low step.at) (steps_rise (step.at + 1) steps) h).0
at_least low (step ∷ steps) (suc j) d h inside =
    let parts = and_parts (nat_le low step.at) (steps_rise (step.at + 1) steps) h in
    omega (arith, leb-true low step.at parts.0, at_least (step.at + 1) steps j d parts.1 (omega arith))

rising_from : (low : ℕ) (steps : List Step) (i j : ℕ) (d : Step) → steps_rise low steps ≡ true → i < j
    → j < length steps → (slice_index_or steps i d).at < (slice_index_or steps j d).at
rising_from low [] i j d h before inside = absurd (omega arith)
rising_from low (step ∷ steps) i zero d h before inside = absurd (omega arith)
rising_from low (step ∷ steps) zero (suc j) d h before inside =
    let parts = and_parts (nat_le low step.at) (steps_rise (step.at + 1) steps) h in
    omega (arith, at_least (step.at + 1) steps j d parts.1 (omega arith))
rising_from low (step ∷ steps) (suc i) (suc j) d h before inside =
    let parts = and_parts (nat_le low step.at) (steps_rise (step.at + 1) steps) h in
    rising_from (step.at + 1) steps i j d parts.1 (omega arith) (omega arith)

pub are_rising : (steps : List Step) → steps_rise 0 steps ≡ true → AreRising steps
are_rising steps h i j d before inside = rising_from 0 steps i j d h before inside
