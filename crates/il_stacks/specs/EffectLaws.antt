-- Laws of what operations leave: of stacks that tell less they leave what tells less, and types stay in order.
use Rattle.std.proofs.Common.{◌≡◌, refl, sym, subst, ℕ, zero, suc, ◌-◌, Bool, true, false, cond, List}
use Rattle.std.proofs.Common.{[], ◌∷◌}
use Rattle.std.proofs.Common.{◌++◌, inl, inr, length, take, drop}
use Rattle.std.specs.Prelude.{nat_lt}
use Rattle.std.specs.List.{AllZip, list_all}
use Rattle.std.proofs.lemmas.Bool.{and_parts, and_from, or_cases, or_left, or_right}
use Rattle.ty_terms.specs.declared.ty.Ty.{Ty}
use Rattle.il_stacks.specs.declared.effect.Effect.{Effect}
use Rattle.il_stacks.specs.declared.effect.Effect.TheVariants.{Empties, Takes, Unknown}
use Rattle.il_stacks.specs.declared.effect.Results.{Results}
use Rattle.il_stacks.specs.declared.effect.Results.TheVariants.{Nothing, Always, Twice, SameNumber, AgreedNumber}
use Rattle.il_stacks.specs.declared.effect.Results.TheVariants.{FirstNumber, ReferenceBehind, Element}
use Rattle.il_stacks.specs.declared.slot.StackSlot.{StackSlot}
use Rattle.il_stacks.specs.declared.slot.StackSlot.TheVariants.{Int32, Int64, NativeInt, Refs}
use Rattle.il_stacks.specs.declared.slot.StackSlot.TheVariants.{Conflict}
use Rattle.il_stacks.specs.declared.stack.Stack.{Stack}
use Rattle.il_stacks.specs.declared.stack.Stack.TheVariants.{Slots, Clash}
use Rattle.il_stacks.specs.Types.{elements_of, has_type, same_type}
use Rattle.il_stacks.specs.Effects.{number_of, agreed, if_object, reference_behind, has_objects, element_slot, twice}
use Rattle.il_stacks.specs.Effects.{of_one, of_first, of_two, given, behind}
use Rattle.il_stacks.specs.Slots.{is_below}
use Rattle.il_stacks.specs.SetLaws.{Within, elements_within, same_exact, same_itself}
use Rattle.il_stacks.specs.SlotLaws.{SlotBelow, to_conflict, int32, int64, native, refs, pointer, weaker, view, value}
use Rattle.il_stacks.specs.SlotLaws.{slot_refl, slots_long, StackBelow, to_clash, by_slots, stack_from}
use Rattle.il_stacks.specs.SlotLaws.{stack_to}

-- ---- single results

number_below : (a b : StackSlot) → SlotBelow a b → SlotBelow (number_of a) (number_of b)
number_below _ _ (to_conflict a) = to_conflict (number_of a)
number_below _ _ int32 = int32
number_below _ _ int64 = int64
number_below _ _ native = native
number_below _ _ (refs types others w) = to_conflict Conflict
number_below _ _ (pointer a b e) = to_conflict Conflict
number_below _ _ (weaker a b e) = to_conflict Conflict
number_below _ _ (view a b e) = to_conflict Conflict
number_below _ _ (value a b e) = to_conflict Conflict

agreed_int32 : (c d : StackSlot) → SlotBelow c d → SlotBelow (agreed Int32 c) (agreed Int32 d)
agreed_int32 _ _ (to_conflict c) = to_conflict (agreed Int32 c)
agreed_int32 _ _ int32 = int32
agreed_int32 _ _ int64 = to_conflict Conflict
agreed_int32 _ _ native = native
agreed_int32 _ _ (refs types others w) = to_conflict Conflict
agreed_int32 _ _ (pointer a b e) = to_conflict Conflict
agreed_int32 _ _ (weaker a b e) = to_conflict Conflict
agreed_int32 _ _ (view a b e) = to_conflict Conflict
agreed_int32 _ _ (value a b e) = to_conflict Conflict

agreed_int64 : (c d : StackSlot) → SlotBelow c d → SlotBelow (agreed Int64 c) (agreed Int64 d)
agreed_int64 _ _ (to_conflict c) = to_conflict (agreed Int64 c)
agreed_int64 _ _ int32 = to_conflict Conflict
agreed_int64 _ _ int64 = int64
agreed_int64 _ _ native = to_conflict Conflict
agreed_int64 _ _ (refs types others w) = to_conflict Conflict
agreed_int64 _ _ (pointer a b e) = to_conflict Conflict
agreed_int64 _ _ (weaker a b e) = to_conflict Conflict
agreed_int64 _ _ (view a b e) = to_conflict Conflict
agreed_int64 _ _ (value a b e) = to_conflict Conflict

agreed_native : (c d : StackSlot) → SlotBelow c d → SlotBelow (agreed NativeInt c) (agreed NativeInt d)
agreed_native _ _ (to_conflict c) = to_conflict (agreed NativeInt c)
agreed_native _ _ int32 = native
agreed_native _ _ int64 = to_conflict Conflict
agreed_native _ _ native = native
agreed_native _ _ (refs types others w) = to_conflict Conflict
agreed_native _ _ (pointer a b e) = to_conflict Conflict
agreed_native _ _ (weaker a b e) = to_conflict Conflict
agreed_native _ _ (view a b e) = to_conflict Conflict
agreed_native _ _ (value a b e) = to_conflict Conflict

agreed_below : (a b c d : StackSlot) → SlotBelow a b → SlotBelow c d → SlotBelow (agreed a c) (agreed b d)
agreed_below _ _ c d (to_conflict a) h = to_conflict (agreed a c)
agreed_below _ _ c d int32 h = agreed_int32 c d h
agreed_below _ _ c d int64 h = agreed_int64 c d h
agreed_below _ _ c d native h = agreed_native c d h
agreed_below _ _ c d (refs types others w) h = to_conflict Conflict
agreed_below _ _ c d (pointer a b e) h = to_conflict Conflict
agreed_below _ _ c d (weaker a b e) h = to_conflict Conflict
agreed_below _ _ c d (view a b e) h = to_conflict Conflict
agreed_below _ _ c d (value a b e) h = to_conflict Conflict

object_below : (objects : Ty → Bool) (a b : Ty) → a ≡ b → SlotBelow (if_object objects a) (if_object objects b)
object_below objects a b e =
    subst (λ t. SlotBelow (if_object objects a) (if_object objects t)) e (slot_refl (if_object objects a))

reference_below : (objects : Ty → Bool) (a b : StackSlot) → SlotBelow a b
    → SlotBelow (reference_behind objects a) (reference_behind objects b)
reference_below objects _ _ (to_conflict a) = to_conflict (reference_behind objects a)
reference_below objects _ _ int32 = to_conflict Conflict
reference_below objects _ _ int64 = to_conflict Conflict
reference_below objects _ _ native = to_conflict Conflict
reference_below objects _ _ (refs types others w) = to_conflict Conflict
reference_below objects _ _ (pointer a b e) = object_below objects a b e
reference_below objects _ _ (weaker a b e) = object_below objects a b e
reference_below objects _ _ (view a b e) = object_below objects a b e
reference_below objects _ _ (value a b e) = to_conflict Conflict

-- a test that passes at each of some types passes at each of fewer
all_at : (test : Ty → Bool) (types : List Ty) → list_all test types ≡ true → (ty : Ty) → has_type types ty ≡ true
    → test ty ≡ true
all_at test [] h ty has = cc
all_at test (first ∷ rest) h ty has =
    let parts = and_parts (test first) (list_all test rest) h in
    elim (or_cases (same_type ty first) (has_type rest ty) has) [
      | inl same ↦ subst (λ t. test t ≡ true) (sym (same_exact ty first same)) parts.0
      | inr there ↦ all_at test rest parts.1 ty there
    ]

all_from : (test : Ty → Bool) (types : List Ty) → ((ty : Ty) → has_type types ty ≡ true → test ty ≡ true)
    → list_all test types ≡ true
all_from test [] h = refl
all_from test (first ∷ rest) h =
    and_from (test first) (list_all test rest)
    (h first (or_left (same_type first first) (has_type rest first) (same_itself first)))
    (all_from test rest (λ ty has. h ty (or_right (same_type ty first) (has_type rest ty) has)))

elements_below : (objects : Ty → Bool) (types others : List Ty) → Within types others
    → SlotBelow (element_slot objects (Refs types)) (element_slot objects (Refs others))
elements_below objects types others w =
    by (list_all (has_objects objects) others) refl (list_all (has_objects objects) types) refl
  where
    by : (t : Bool) → list_all (has_objects objects) others ≡ t → (t' : Bool)
        → list_all (has_objects objects) types ≡ t'
        → SlotBelow (cond t' (Refs (elements_of types)) Conflict) (cond t (Refs (elements_of others)) Conflict)
    by false e t' e' = to_conflict (cond t' (Refs (elements_of types)) Conflict)
    by true e true e' = refs (elements_of types) (elements_of others) (elements_within types others w)
    by true e false e' =
        let fewer : list_all (has_objects objects) types ≡ true =
        all_from (has_objects objects) types (λ ty has. all_at (has_objects objects) others e ty (w ty has)) in
        cc

element_below : (objects : Ty → Bool) (a b : StackSlot) → SlotBelow a b
    → SlotBelow (element_slot objects a) (element_slot objects b)
element_below objects _ _ (to_conflict a) = to_conflict (element_slot objects a)
element_below objects _ _ int32 = to_conflict Conflict
element_below objects _ _ int64 = to_conflict Conflict
element_below objects _ _ native = to_conflict Conflict
element_below objects _ _ (refs types others w) = elements_below objects types others w
element_below objects _ _ (pointer a b e) = to_conflict Conflict
element_below objects _ _ (weaker a b e) = to_conflict Conflict
element_below objects _ _ (view a b e) = to_conflict Conflict
element_below objects _ _ (value a b e) = to_conflict Conflict

-- ---- results

abbrev Rises : (StackSlot → StackSlot) → Type 0
Rises result = (a b : StackSlot) → SlotBelow a b → SlotBelow (result a) (result b)

conflicts : AllZip SlotBelow (Conflict ∷ []) (Conflict ∷ [])
conflicts = (to_conflict Conflict, tt)

twice_below : (xs ys : List StackSlot) → AllZip SlotBelow xs ys → AllZip SlotBelow (twice xs) (twice ys)
twice_below [] [] h = tt
twice_below [] (y ∷ ys) h = absurd h
twice_below (x ∷ xs) [] h = absurd h
twice_below (x ∷ []) (y ∷ []) h = (h.0, (h.0, tt))
twice_below (x ∷ []) (y ∷ (z ∷ ys)) h = absurd h.1
twice_below (x ∷ (z ∷ xs)) (y ∷ []) h = absurd h.1
twice_below (x ∷ (z ∷ xs)) (y ∷ (z' ∷ ys)) h = h

one_below : (result : StackSlot → StackSlot) → Rises result → (xs ys : List StackSlot) → AllZip SlotBelow xs ys
    → AllZip SlotBelow (of_one result xs) (of_one result ys)
one_below result rises [] [] h = conflicts
one_below result rises [] (y ∷ ys) h = absurd h
one_below result rises (x ∷ xs) [] h = absurd h
one_below result rises (x ∷ []) (y ∷ []) h = (rises x y h.0, tt)
one_below result rises (x ∷ []) (y ∷ (z ∷ ys)) h = absurd h.1
one_below result rises (x ∷ (z ∷ xs)) (y ∷ []) h = absurd h.1
one_below result rises (x ∷ (z ∷ xs)) (y ∷ (z' ∷ ys)) h = conflicts

two_below : (result : StackSlot → StackSlot → StackSlot)
    → ((a b c d : StackSlot) → SlotBelow a b → SlotBelow c d → SlotBelow (result a c) (result b d))
    → (xs ys : List StackSlot) → AllZip SlotBelow xs ys → AllZip SlotBelow (of_two result xs) (of_two result ys)
two_below result rises [] [] h = conflicts
two_below result rises [] (y ∷ ys) h = absurd h
two_below result rises (x ∷ xs) [] h = absurd h
two_below result rises (x ∷ []) (y ∷ []) h = conflicts
two_below result rises (x ∷ []) (y ∷ (z ∷ ys)) h = absurd h.1
two_below result rises (x ∷ (z ∷ xs)) (y ∷ []) h = absurd h.1
two_below result rises (x ∷ (z ∷ [])) (y ∷ (z' ∷ [])) h = (rises x y z z' h.0 h.1.0, tt)
two_below result rises (x ∷ (z ∷ [])) (y ∷ (z' ∷ (u ∷ ys))) h = absurd h.1.1
two_below result rises (x ∷ (z ∷ (u ∷ xs))) (y ∷ (z' ∷ [])) h = absurd h.1.1
two_below result rises (x ∷ (z ∷ (u ∷ xs))) (y ∷ (z' ∷ (u' ∷ ys))) h = conflicts

first_below : (result : StackSlot → StackSlot) → Rises result → (xs ys : List StackSlot) → AllZip SlotBelow xs ys
    → AllZip SlotBelow (of_first result xs) (of_first result ys)
first_below result rises xs ys h = two_below (λ a b. result a) (λ a b c d h h'. rises a b h) xs ys h

given_below : (objects : Ty → Bool) (results : Results) (xs ys : List StackSlot) → AllZip SlotBelow xs ys
    → AllZip SlotBelow (given objects results xs) (given objects results ys)
given_below objects Nothing xs ys h = tt
given_below objects (Always slot) xs ys h = (slot_refl slot, tt)
given_below objects Twice xs ys h = twice_below xs ys h
given_below objects SameNumber xs ys h = one_below number_of number_below xs ys h
given_below objects AgreedNumber xs ys h = two_below agreed agreed_below xs ys h
given_below objects FirstNumber xs ys h = first_below number_of number_below xs ys h
given_below objects ReferenceBehind xs ys h = one_below (reference_behind objects) (reference_below objects) xs ys h
given_below objects Element xs ys h = first_below (element_slot objects) (element_below objects) xs ys h

-- ---- stacks

take_below : (n : ℕ) (xs ys : List StackSlot) → AllZip SlotBelow xs ys → AllZip SlotBelow (take n xs) (take n ys)
take_below zero xs ys h = tt
take_below (suc n) [] [] h = tt
take_below (suc n) [] (y ∷ ys) h = absurd h
take_below (suc n) (x ∷ xs) [] h = absurd h
take_below (suc n) (x ∷ xs) (y ∷ ys) h = (h.0, take_below n xs ys h.1)

drop_below : (n : ℕ) (xs ys : List StackSlot) → AllZip SlotBelow xs ys → AllZip SlotBelow (drop n xs) (drop n ys)
drop_below zero xs ys h = h
drop_below (suc n) [] [] h = tt
drop_below (suc n) [] (y ∷ ys) h = absurd h
drop_below (suc n) (x ∷ xs) [] h = absurd h
drop_below (suc n) (x ∷ xs) (y ∷ ys) h = drop_below n xs ys h.1

append_below : (xs ys front back : List StackSlot) → AllZip SlotBelow xs ys → AllZip SlotBelow front back
    → AllZip SlotBelow (xs ++ front) (ys ++ back)
append_below [] [] front back h h' = h'
append_below [] (y ∷ ys) front back h h' = absurd h
append_below (x ∷ xs) [] front back h h' = absurd h
append_below (x ∷ xs) (y ∷ ys) front back h h' = (h.0, append_below xs ys front back h.1 h')

taken_below : (objects : Ty → Bool) (count : ℕ) (results : Results) (xs ys : List StackSlot) → AllZip SlotBelow xs ys
    → StackBelow (behind objects (Takes count results) (Slots xs)) (behind objects (Takes count results) (Slots ys))
taken_below objects count results xs ys h =
    subst (λ n. StackBelow (behind objects (Takes count results) (Slots xs))
    (cond (cond (nat_lt n count) false true)
    (Slots (take (n - count) ys ++ given objects results (drop (n - count) ys))) Clash)) (slots_long xs ys h)
    (by (cond (nat_lt (length xs) count) false true))
  where
    by : (t : Bool) → StackBelow
        (cond t (Slots (take (length xs - count) xs ++ given objects results (drop (length xs - count) xs))) Clash)
        (cond t (Slots (take (length xs - count) ys ++ given objects results (drop (length xs - count) ys))) Clash)
    by true =
        by_slots (take (length xs - count) xs ++ given objects results (drop (length xs - count) xs))
        (take (length xs - count) ys ++ given objects results (drop (length xs - count) ys))
        (append_below (take (length xs - count) xs) (take (length xs - count) ys)
        (given objects results (drop (length xs - count) xs)) (given objects results (drop (length xs - count) ys))
        (take_below (length xs - count) xs ys h)
        (given_below objects results (drop (length xs - count) xs) (drop (length xs - count) ys)
        (drop_below (length xs - count) xs ys h)))
    by false = to_clash Clash

behind_by : (objects : Ty → Bool) (effect : Effect) (a b : Stack) → StackBelow a b
    → StackBelow (behind objects effect a) (behind objects effect b)
behind_by objects effect _ _ (to_clash a) = to_clash (behind objects effect a)
behind_by objects Empties _ _ (by_slots xs ys h) = by_slots [] [] tt
behind_by objects (Takes count results) _ _ (by_slots xs ys h) = taken_below objects count results xs ys h
behind_by objects Unknown _ _ (by_slots xs ys h) = to_clash Clash

-- of a stack that tells less an operation leaves what tells no more
pub behind_below : (objects : Ty → Bool) (effect : Effect) (a b : Stack) → is_below a b ≡ true
    → is_below (behind objects effect a) (behind objects effect b) ≡ true
behind_below objects effect a b h =
    stack_to (behind objects effect a) (behind objects effect b) (behind_by objects effect a b (stack_from a b h))
