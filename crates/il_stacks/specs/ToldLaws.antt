-- Laws of the order of what is known while the work list runs.
use Rattle.std.proofs.Common.{◌≡◌, inl, inr, refl, sym, subst, ℕ, ◌-◌, Bool, true, false}
use Rattle.std.proofs.Common.{cond, List, [], ◌∷◌, ◌++◌, length, take, drop, map, filter, Option, Some, None, Contains}
use Rattle.std.specs.Prelude.{nat_lt}
use Rattle.std.specs.List.{list_all, flat_map}
use Rattle.std.specs.Option.{option_map_or}
use Rattle.std.proofs.lemmas.Bool.{and_from, and_parts}
use Rattle.std.proofs.lemmas.List.Elements.{All-append, All-contains, All-contains_itself, All-filter, All-map}
use Rattle.std.proofs.lemmas.List.Elements.{All-weaker}
use Rattle.ty_terms.specs.declared.ty.Ty.{Ty}
use Rattle.il_stacks.specs.declared.effect.Effect.{Effect}
use Rattle.il_stacks.specs.declared.effect.Effect.TheVariants.{Empties, Takes, Unknown}
use Rattle.il_stacks.specs.declared.effect.Handler.{Handler}
use Rattle.il_stacks.specs.declared.effect.Results.{Results}
use Rattle.il_stacks.specs.declared.effect.Results.TheVariants.{Nothing, Always, Twice, SameNumber, AgreedNumber}
use Rattle.il_stacks.specs.declared.effect.Results.TheVariants.{FirstNumber, ReferenceBehind, Element}
use Rattle.il_stacks.specs.declared.effect.Step.{Step}
use Rattle.il_stacks.specs.declared.slot.StackSlot.{StackSlot}
use Rattle.il_stacks.specs.declared.slot.StackSlot.TheVariants.{Int32, Int64, NativeInt, Refs, Pointer, View, Value}
use Rattle.il_stacks.specs.declared.slot.StackSlot.TheVariants.{Conflict}
use Rattle.il_stacks.specs.declared.stack.Stack.{Stack}
use Rattle.il_stacks.specs.declared.stack.Stack.TheVariants.{Slots, Clash}
use Rattle.il_stacks.specs.Bounds.{are_sound, slots_of_effect, slots_of_handler}
use Rattle.il_stacks.specs.Bounds.{slots_of_results}
use Rattle.il_stacks.specs.Bounds.{slots_of_step}
use Rattle.il_stacks.specs.BoundLaws.{all_append, all_drop, all_left, all_of_part, all_right, all_take}
use Rattle.il_stacks.specs.Effects.{agreed, behind, element_slot, given, has_objects, number_of}
use Rattle.il_stacks.specs.Effects.{of_one, of_two, reference_behind, twice}
use Rattle.il_stacks.specs.Flow.{Passes, entry, entry_slots, passed, tries}
use Rattle.il_stacks.specs.FlowLaws.{monotone}
use Rattle.il_stacks.specs.SetLaws.{rising_elements}
use Rattle.il_stacks.specs.Slots.{IsBelow, is_rising_slot, is_rising_stack}
use Rattle.il_stacks.specs.SlotLaws.{reflexive, transitive}
use Rattle.il_stacks.specs.Told.{IsRisingBelow}
use Rattle.il_stacks.specs.Types.{elements_of}

-- ---- operations keep types in order

abbrev AreInOrder : List StackSlot → Type 0
AreInOrder slots = list_all is_rising_slot slots ≡ true

one_in_order : (slot : StackSlot) → is_rising_slot slot ≡ true → AreInOrder (slot ∷ [])
one_in_order slot h = and_from (is_rising_slot slot) true h refl

number_in_order : (slot : StackSlot) → is_rising_slot (number_of slot) ≡ true
number_in_order Int32 = refl
number_in_order Int64 = refl
number_in_order NativeInt = refl
number_in_order (Refs types) = refl
number_in_order (Pointer ty) = refl
number_in_order (View ty) = refl
number_in_order (Value ty) = refl
number_in_order Conflict = refl

agreed_in_order : (a b : StackSlot) → is_rising_slot (agreed a b) ≡ true
agreed_in_order Int32 Int32 = refl
agreed_in_order Int64 Int64 = refl
agreed_in_order NativeInt NativeInt = refl
agreed_in_order Int32 NativeInt = refl
agreed_in_order NativeInt Int32 = refl
agreed_in_order _ _ = refl

object_in_order : (t : Bool) (ty : Ty) → is_rising_slot (cond t (Refs (ty ∷ [])) Conflict) ≡ true
object_in_order true ty = refl
object_in_order false ty = refl

reference_in_order : (objects : Ty → Bool) (slot : StackSlot) → is_rising_slot (reference_behind objects slot) ≡ true
reference_in_order objects Int32 = refl
reference_in_order objects Int64 = refl
reference_in_order objects NativeInt = refl
reference_in_order objects (Refs types) = refl
reference_in_order objects (Pointer ty) = object_in_order (objects ty) ty
reference_in_order objects (View ty) = object_in_order (objects ty) ty
reference_in_order objects (Value ty) = refl
reference_in_order objects Conflict = refl

elements_in_order : (t : Bool) (types : List Ty) → is_rising_slot (cond t (Refs (elements_of types)) Conflict) ≡ true
elements_in_order true types = rising_elements types
elements_in_order false types = refl

element_in_order : (objects : Ty → Bool) (slot : StackSlot) → is_rising_slot (element_slot objects slot) ≡ true
element_in_order objects Int32 = refl
element_in_order objects Int64 = refl
element_in_order objects NativeInt = refl
element_in_order objects (Refs types) = elements_in_order (list_all (has_objects objects) types) types
element_in_order objects (Pointer ty) = refl
element_in_order objects (View ty) = refl
element_in_order objects (Value ty) = refl
element_in_order objects Conflict = refl

of_one_in_order : (result : StackSlot → StackSlot) → ((slot : StackSlot) → is_rising_slot (result slot) ≡ true)
    → (xs : List StackSlot) → AreInOrder (of_one result xs)
of_one_in_order result h [] = refl
of_one_in_order result h (x ∷ []) = one_in_order (result x) (h x)
of_one_in_order result h (x ∷ (y ∷ xs)) = refl

of_two_in_order : (result : StackSlot → StackSlot → StackSlot)
    → ((a b : StackSlot) → is_rising_slot (result a b) ≡ true) → (xs : List StackSlot) → AreInOrder (of_two result xs)
of_two_in_order result h [] = refl
of_two_in_order result h (x ∷ []) = refl
of_two_in_order result h (x ∷ (y ∷ [])) = one_in_order (result x y) (h x y)
of_two_in_order result h (x ∷ (y ∷ (z ∷ xs))) = refl

twice_in_order : (xs : List StackSlot) → AreInOrder xs → AreInOrder (twice xs)
twice_in_order [] h = refl
twice_in_order (x ∷ []) h = and_from (is_rising_slot x) (list_all is_rising_slot (x ∷ []))
    (and_parts (is_rising_slot x) true h).0 h
twice_in_order (x ∷ (y ∷ xs)) h = h

given_in_order : (objects : Ty → Bool) (results : Results) (xs : List StackSlot) → AreInOrder (slots_of_results results)
    → AreInOrder xs → AreInOrder (given objects results xs)
given_in_order objects Nothing xs r h = refl
given_in_order objects (Always slot) xs r h = r
given_in_order objects Twice xs r h = twice_in_order xs h
given_in_order objects SameNumber xs r h = of_one_in_order number_of number_in_order xs
given_in_order objects AgreedNumber xs r h = of_two_in_order agreed agreed_in_order xs
given_in_order objects FirstNumber xs r h = of_two_in_order (λ a b. number_of a) (λ a b. number_in_order a) xs
given_in_order objects ReferenceBehind xs r h =
    of_one_in_order (reference_behind objects) (reference_in_order objects) xs
given_in_order objects Element xs r h =
    of_two_in_order (λ a b. element_slot objects a) (λ a b. element_in_order objects a) xs

taken_in_order : (objects : Ty → Bool) (count : ℕ) (results : Results) (slots : List StackSlot)
    → AreInOrder (slots_of_results results) → AreInOrder slots
    → is_rising_stack (behind objects (Takes count results) (Slots slots)) ≡ true
taken_in_order objects count results slots r h = by (cond (nat_lt (length slots) count) false true)
  where
    by : (t : Bool) → is_rising_stack (cond t (Slots (take (length slots - count) slots
        ++ given objects results (drop (length slots - count) slots))) Clash) ≡ true
    by true =
        all_append is_rising_slot (take (length slots - count) slots)
        (given objects results (drop (length slots - count) slots))
        (all_take is_rising_slot (length slots - count) slots h)
        (given_in_order objects results (drop (length slots - count) slots) r
        (all_drop is_rising_slot (length slots - count) slots h))
    by false = refl

behind_in_order : (objects : Ty → Bool) (effect : Effect) (stack : Stack) → AreInOrder (slots_of_effect effect)
    → is_rising_stack stack ≡ true → is_rising_stack (behind objects effect stack) ≡ true
behind_in_order objects effect Clash r h = refl
behind_in_order objects Empties (Slots slots) r h = refl
behind_in_order objects (Takes count results) (Slots slots) r h = taken_in_order objects count results slots r h
behind_in_order objects Unknown (Slots slots) r h = refl

entry_in_order : (caught : Option StackSlot) → AreInOrder (option_map_or (λ slot. slot ∷ []) caught [])
    → is_rising_stack (Slots (entry_slots caught)) ≡ true
entry_in_order None h = refl
entry_in_order (Some slot) h = h

-- what is passed on from a stack in order is in order
pub passed_in_order : (objects : Ty → Bool) (steps : List Step) (handlers : List Handler) (step : Step) (stack : Stack)
    (to : ℕ) (fact : Stack) → are_sound steps handlers ≡ true → Contains steps step → is_rising_stack stack ≡ true
    → Contains (passed objects handlers step stack) (to, fact) → is_rising_stack fact ≡ true
passed_in_order objects steps handlers step stack to fact sound there h has =
    let P : ℕ × Stack → Type 0 = λ f. is_rising_stack f.1 ≡ true in
    let of_steps : list_all is_rising_slot (flat_map slots_of_step steps) ≡ true =
    all_left is_rising_slot (flat_map slots_of_step steps) (flat_map slots_of_handler handlers) sound in
    let of_handlers : list_all is_rising_slot (flat_map slots_of_handler handlers) ≡ true =
    all_right is_rising_slot (flat_map slots_of_step steps) (flat_map slots_of_handler handlers) sound in
    let after : is_rising_stack (behind objects step.effect stack) ≡ true =
    behind_in_order objects step.effect stack
    (all_of_part is_rising_slot slots_of_step steps step there.0 there.1 there.2 of_steps) h in
    All-contains P (passed objects handlers step stack) (to, fact)
    (All-append P (map (λ to. (to, behind objects step.effect stack)) step.ways)
    (map entry (filter (tries step.at) handlers))
    (All-map P (λ to. (to, behind objects step.effect stack)) step.ways (λ k d inside. after))
    (All-map P entry (filter (tries step.at) handlers)
    (All-filter (tries step.at) (λ handler. P (entry handler)) handlers
    (All-weaker (Contains handlers) (λ handler. P (entry handler))
    (λ handler has. entry_in_order handler.caught
    (all_of_part is_rising_slot slots_of_handler handlers handler has.0 has.1 has.2 of_handlers)) handlers
    (All-contains_itself handlers))))) has

-- ---- the order

pub rising_reflexive : (a : Stack) → IsRisingBelow a a
rising_reflexive a = inl refl

-- the order of what is known
pub below_from : (a b : Stack) → IsRisingBelow a b → IsBelow a b
below_from a b h = elim h [
  | inl same ↦ subst (IsBelow a) same (reflexive a)
  | inr less ↦ less.1
]

pub rising_transitive : (a b c : Stack) → IsRisingBelow a b → IsRisingBelow b c → IsRisingBelow a c
rising_transitive a b c h h' = elim h [
  | inl same ↦ subst (λ s. IsRisingBelow s c) (sym same) h'
  | inr less ↦ inr (less.0, transitive a b c less.1 (below_from b c h'))
]

pub rising_monotone : (objects : Ty → Bool) (steps : List Step) (handlers : List Handler)
    → are_sound steps handlers ≡ true → (place : ℕ) (a b : Stack) (to : ℕ) (fact : Stack) → IsRisingBelow a b
    → Passes objects steps handlers place a to fact
    → (more : Stack) × Passes objects steps handlers place b to more × IsRisingBelow fact more
rising_monotone objects steps handlers sound place a b to fact h passes = elim h [
  | inl same ↦
      (fact, subst (λ s. Passes objects steps handlers place s to fact) same passes, inl refl)
  | inr less ↦
      let found = monotone objects steps handlers place a b to fact less.1 passes in (
        found.0,
        found.1,
        inr (passed_in_order objects steps handlers passes.0 a to fact sound passes.1 less.0 passes.3, found.2),
      )
]
