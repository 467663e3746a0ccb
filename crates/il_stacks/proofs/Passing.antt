-- What is passed on from a step stays within the bounds, and is all that the flow of stacks says.
use Rattle.std.proofs.Common.{◌≡◌, ◌⊎◌, inl, inr, refl, sym, ap, subst, ◌∙◌, ℕ, zero, suc, ◌+◌, ◌<◌, Bool, true}
use Rattle.std.proofs.Common.{List, [], ◌∷◌, length, map, filter, All, Contains, slice_index_or, arith}
use Rattle.std.specs.List.{list_all}
use Rattle.std.proofs.lemmas.Bool.{and_parts, and_from}
use Rattle.std.proofs.lemmas.List.Elements.{All-append, All-contains_itself, All-filter, All-map, All-weaker}
use Rattle.least_flow.specs.Solution.{AreTold}
use Rattle.ty_terms.specs.declared.ty.Ty.{Ty}
use Rattle.il_stacks.specs.declared.effect.Handler.{Handler}
use Rattle.il_stacks.specs.declared.effect.Step.{Step}
use Rattle.il_stacks.specs.declared.slot.StackSlot.{StackSlot}
use Rattle.il_stacks.specs.declared.stack.Stack.{Stack}
use Rattle.il_stacks.specs.declared.stack.Stack.TheVariants.{Slots, Clash}
use Rattle.il_stacks.specs.Bounds.{IsWithin, are_sound, is_slot_within, types_met, types_of_slot}
use Rattle.il_stacks.specs.BoundLaws.{behind_within, entry_within, handler_within, met_closed, step_within}
use Rattle.il_stacks.specs.Effects.{behind}
use Rattle.il_stacks.specs.Flow.{AreRising, Passes, Starts, entry, passed, tries}
use Rattle.il_stacks.specs.Slots.{is_rising_slot, is_rising_stack}
use Rattle.il_stacks.specs.Told.{IsRisingBelow}
use Rattle.il_stacks.specs.ToldLaws.{rising_reflexive}
use Rattle.il_stacks.specs.Types.{is_subset}

rising_slots : (met : List Ty) (slots : List StackSlot) → list_all (is_slot_within met) slots ≡ true
    → list_all is_rising_slot slots ≡ true
rising_slots met [] h = refl
rising_slots met (slot ∷ slots) h =
    let parts = and_parts (is_slot_within met slot) (list_all (is_slot_within met) slots) h in
    and_from (is_rising_slot slot) (list_all is_rising_slot slots)
    (and_parts (is_rising_slot slot) (is_subset (types_of_slot slot) met) parts.0).0 (rising_slots met slots parts.1)

-- the types of a stack that is within are in order
pub rising_within : (met : List Ty) (n : ℕ) (stack : Stack) → IsWithin met n stack → is_rising_stack stack ≡ true
rising_within met n (Slots slots) h = rising_slots met slots h.1
rising_within met n Clash h = refl

-- what is passed on has come over one offset more
pub passed_within : (objects : Ty → Bool) (steps : List Step) (handlers : List Handler) (step : Step) (depth : ℕ)
    (known : Stack) → are_sound steps handlers ≡ true → Contains steps step
    → IsWithin (types_met steps handlers) depth known
    → All (λ (f : ℕ × Stack). IsWithin (types_met steps handlers) (depth + 1) f.1) (passed objects handlers step known)
passed_within objects steps handlers step depth known sound there h =
    let met : List Ty = types_met steps handlers in
    let P : ℕ × Stack → Type 0 = λ f. IsWithin met (depth + 1) f.1 in
    let after : IsWithin met (depth + 1) (behind objects step.effect known) =
    behind_within met objects step.effect depth known (met_closed steps handlers)
    (step_within steps handlers step sound there) h in
    All-append P (map (λ to. (to, behind objects step.effect known)) step.ways)
    (map entry (filter (tries step.at) handlers))
    (All-map P (λ to. (to, behind objects step.effect known)) step.ways (λ k d inside. after))
    (All-map P entry (filter (tries step.at) handlers)
    (All-filter (tries step.at) (λ handler. P (entry handler)) handlers
    (All-weaker (Contains handlers) (λ handler. P (entry handler))
    (λ handler has. entry_within met handler depth (handler_within steps handlers handler sound has)) handlers
    (All-contains_itself handlers))))

-- ---- the step at an offset

same_default : {X : Type 0} (xs : List X) (n : ℕ) (d e : X) → n < length xs
    → slice_index_or xs n d ≡ slice_index_or xs n e
same_default [] n d e h = absurd (omega (arith, h))
same_default (x ∷ xs) zero d e h = refl
same_default (x ∷ xs) (suc n) d e h = same_default xs n d e (omega (arith, h))

before_behind : (n m : ℕ) → (n ≡ m) ⊎ ((n < m) ⊎ (m < n))
before_behind n m = grind arith

-- where offsets rise, the step at one is the only one there
only_one : (steps : List Step) (n m : ℕ) (i j : Step) → AreRising steps → n < length steps → m < length steps
    → slice_index_or steps n i ≡ i → slice_index_or steps m j ≡ j → i.at ≡ j.at → i ≡ j
only_one steps n m i j rising inside inside' is is' same = elim (before_behind n m) [
  | inl e ↦ sym is ∙ (same_default steps n i j inside ∙ (ap (λ k. slice_index_or steps k j) e ∙ is'))
  | inr less ↦ elim less [
    | inl before ↦
        let higher : (slice_index_or steps n i).at < (slice_index_or steps m i).at = rising n m i before inside' in
        let at-n : (slice_index_or steps n i).at ≡ i.at = ap (λ (x : Step). x.at) is in
        let at-m : (slice_index_or steps m i).at ≡ j.at = ap (λ (x : Step). x.at)
        (same_default steps m i j inside' ∙ is') in
        absurd (omega (arith, higher, at-n, at-m, same))
    | inr behind ↦
        let higher : (slice_index_or steps m i).at < (slice_index_or steps n i).at = rising m n i behind inside in
        let at-n : (slice_index_or steps n i).at ≡ i.at = ap (λ (x : Step). x.at) is in
        let at-m : (slice_index_or steps m i).at ≡ j.at = ap (λ (x : Step). x.at)
        (same_default steps m i j inside' ∙ is') in
        absurd (omega (arith, higher, at-n, at-m, same))
  ]
]

-- what is passed on from an offset, where the step of this number stands there
pub told_here : (objects : Ty → Bool) (steps : List Step) (handlers : List Handler) (place n : ℕ) (known : Stack)
    (facts : List (ℕ × Stack)) (step : Step) → AreRising steps → n < length steps → slice_index_or steps n step ≡ step
    → step.at ≡ place → facts ≡ passed objects handlers step known
    → AreTold IsRisingBelow (Passes objects steps handlers place known) facts
told_here objects steps handlers place n known facts step rising inside is at e =
    record {
      all = λ to fact passes.
          let same : passes.0 ≡ step =
          only_one steps passes.1.0 n passes.0 step rising passes.1.1 inside passes.1.2 is (passes.2 ∙ sym at) in
          let here : Contains (passed objects handlers step known) (to, fact) =
          subst (λ (s : Step). Contains (passed objects handlers s known) (to, fact)) same passes.3 in
          (fact, subst (λ fs. Contains fs (to, fact)) (sym e) here, rising_reflexive fact);
      only = λ to given has.
          (given, (step, (n, inside, is), at, subst (λ fs. Contains fs (to, given)) e has), rising_reflexive given);
    }

-- where no step stands nothing is passed on
pub told_nowhere : (objects : Ty → Bool) (steps : List Step) (handlers : List Handler) (place : ℕ) (known : Stack)
    → All (λ (step : Step). ¬ (step.at ≡ place)) steps
    → AreTold IsRisingBelow (Passes objects steps handlers place known) []
told_nowhere objects steps handlers place known none =
    record {
      all = λ to fact passes.
          absurd (none passes.1.0 passes.0 passes.1.1
          (subst (λ (s : Step). s.at ≡ place) (sym passes.1.2) passes.2));
      only = λ to given has. absurd (omega (arith, has.1));
    }

-- the code begins with an empty stack alone
pub told_start : (facts : List (ℕ × Stack)) → facts ≡ (0, Slots []) ∷ [] → AreTold IsRisingBelow Starts facts
told_start facts e =
    record {
      all = λ to fact starts.
          let here : (0, Slots []) ≡ (to, fact) = (λ k. (sym starts.0 k, sym starts.1 k)) in
          (fact, subst (λ fs. Contains fs (to, fact)) (sym e) (0, omega arith, here), rising_reflexive fact);
      only = λ to given has. only to given (subst (λ fs. Contains fs (to, given)) e has);
    }
  where
    only : (to : ℕ) (given : Stack) → Contains {X = ℕ × Stack} ((0, Slots []) ∷ []) (to, given)
        → (fact : Stack) × Starts to fact × IsRisingBelow given fact
    only to given has = by has.0 has.1 has.2
      where
        by : (k : ℕ) → k < length {A = ℕ × Stack} ((0, Slots []) ∷ [])
            → slice_index_or {A = ℕ × Stack} ((0, Slots []) ∷ []) k (to, given) ≡ (to, given)
            → (fact : Stack) × Starts to fact × IsRisingBelow given fact
        by zero inside is = (
          given,
          (sym (ap (λ (f : ℕ × Stack). f.0) is), sym (ap (λ (f : ℕ × Stack). f.1) is)),
          rising_reflexive given,
        )
        by (suc k) inside is = absurd (omega (arith, inside))
