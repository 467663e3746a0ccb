-- From an offset of whose stack less is known no more is passed on.
use Rattle.std.proofs.Common.{◌≡◌, ap, subst, ℕ, zero, suc, ◌<◌, Bool, true, List, [], ◌∷◌, ◌++◌, inl}
use Rattle.std.proofs.Common.{inr}
use Rattle.std.proofs.Common.{length, map, filter, slice_index_or, Contains, arith}
use Rattle.std.proofs.lemmas.List.Elements.{Contains-append_cases, Contains-append_left, Contains-append_right}
use Rattle.ty_terms.specs.declared.ty.Ty.{Ty}
use Rattle.il_stacks.specs.declared.effect.Handler.{Handler}
use Rattle.il_stacks.specs.declared.effect.Step.{Step}
use Rattle.il_stacks.specs.declared.stack.Stack.{Stack}
use Rattle.il_stacks.specs.Effects.{behind}
use Rattle.il_stacks.specs.EffectLaws.{behind_below}
use Rattle.il_stacks.specs.Flow.{Passes, entry, passed, tries}
use Rattle.il_stacks.specs.Slots.{is_below}
use Rattle.il_stacks.specs.SlotLaws.{reflexive}

-- a fact that tells no less is passed on to the same offset
abbrev pub HasMore : List (ℕ × Stack) → ℕ → Stack → Type 0
HasMore facts to fact = (more : Stack) × Contains facts (to, more) × (is_below fact more ≡ true)

behind_first : (first : ℕ × Stack) (facts : List (ℕ × Stack)) (to : ℕ) (fact : Stack) → HasMore facts to fact
    → HasMore (first ∷ facts) to fact
behind_first first facts to fact found =
    (found.0, (suc found.1.0, omega (arith, found.1.1), found.1.2), found.2)

ways_more : (ways : List ℕ) (stack other : Stack) (to : ℕ) (fact : Stack) (k : ℕ) → is_below stack other ≡ true
    → k < length {A = ℕ × Stack} (map (λ way. (way, stack)) ways)
    → slice_index_or {A = ℕ × Stack} (map (λ way. (way, stack)) ways) k (to, fact) ≡ (to, fact)
    → HasMore (map (λ way. (way, other)) ways) to fact
ways_more [] stack other to fact k h inside is = absurd (omega arith)
ways_more (way ∷ ways) stack other to fact zero h inside is =
    let here : way ≡ to = ap (λ (f : ℕ × Stack). f.0) is in
    let what : stack ≡ fact = ap (λ (f : ℕ × Stack). f.1) is in
    let there : (way, other) ≡ (to, other) = ap (λ t. (t, other)) here in
    let found : Contains {X = ℕ × Stack} ((way, other) ∷ map (λ way. (way, other)) ways) (to, other) =
    (0, omega arith, there) in
    (other, found, subst (λ s. is_below s other ≡ true) what h)
ways_more (way ∷ ways) stack other to fact (suc k) h inside is =
    behind_first (way, other) (map (λ way. (way, other)) ways) to fact
    (ways_more ways stack other to fact k h (omega arith) is)

front_more : (facts behind : List (ℕ × Stack)) (to : ℕ) (fact : Stack) → HasMore facts to fact
    → HasMore (facts ++ behind) to fact
front_more facts behind to fact found =
    (found.0, Contains-append_left facts behind (to, found.0) found.1, found.2)

pub passed_more : (objects : Ty → Bool) (handlers : List Handler) (step : Step) (a b : Stack) (to : ℕ) (fact : Stack)
    → is_below a b ≡ true → Contains (passed objects handlers step a) (to, fact)
    → HasMore (passed objects handlers step b) to fact
passed_more objects handlers step a b to fact h there =
    let onward : List (ℕ × Stack) = map (λ way. (way, behind objects step.effect a)) step.ways in
    let onward' : List (ℕ × Stack) = map (λ way. (way, behind objects step.effect b)) step.ways in
    let entries : List (ℕ × Stack) = map entry (filter (tries step.at) handlers) in
    elim (Contains-append_cases onward entries (to, fact) there) [
      | inl found ↦
          front_more onward' entries to fact
          (ways_more step.ways (behind objects step.effect a) (behind objects step.effect b) to fact found.0
          (behind_below objects step.effect a b h) found.1 found.2)
      | inr found ↦ (fact, Contains-append_right onward' entries (to, fact) found, reflexive fact)
    ]

pub monotone : (objects : Ty → Bool) (steps : List Step) (handlers : List Handler) (place : ℕ) (a b : Stack) (to : ℕ)
    (fact : Stack) → is_below a b ≡ true → Passes objects steps handlers place a to fact
    → (more : Stack) × Passes objects steps handlers place b to more × (is_below fact more ≡ true)
monotone objects steps handlers place a b to fact h passes =
    let found = passed_more objects handlers passes.0 a b to fact h passes.3 in
    (found.0, (passes.0, passes.1, passes.2, found.1), found.2)
