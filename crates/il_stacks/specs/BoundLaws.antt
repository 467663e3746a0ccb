-- Laws of depths, of the types that can be met, and of ranks: what is raised has a higher rank, and there is a highest.
use Rattle.std.proofs.Common.{◌≡◌, refl, sym, ap, subst, ◌∙◌, ℕ, zero, suc, ◌+◌, ◌-◌, ◌*◌, ◌<◌, ◌≤◌, Bool, true, false}
use Rattle.std.proofs.Common.{◌||◌, cond, List, [], ◌∷◌, ◌++◌, inl, inr, length, take, drop, Option, Some, None}
use Rattle.std.proofs.Common.{arith}
use Rattle.std.proofs.Common.{slice_index_or, Contains}
use Rattle.std.specs.Prelude.{◌==◌, nat_lt}
use Rattle.std.specs.List.{AllZip, list_all, flat_map}
use Rattle.std.specs.Option.{option_map_or}
use Rattle.std.proofs.lemmas.Bool.{and_parts, and_from, and_cases, or_cases, or_left, or_right}
use Rattle.std.proofs.lemmas.List.{length-take, length-drop, length-append}
use Rattle.ty_terms.specs.declared.ty.Ty.{Ty}
use Rattle.ty_terms.specs.declared.ty.Ty.TheOpen.{Ty-F}
use Rattle.ty_terms.specs.declared.ty.Ty.TheFolds.{fold_out-Ty, map-Ty}
use Rattle.ty_terms.specs.declared.ty.Ty.TheViews.{out-Ty}
use Rattle.ty_terms.specs.Depth.{depth_of, depth_step}
use Rattle.il_stacks.specs.declared.effect.Effect.{Effect}
use Rattle.il_stacks.specs.declared.effect.Effect.TheVariants.{Empties, Takes, Unknown}
use Rattle.il_stacks.specs.declared.effect.Handler.{Handler}
use Rattle.il_stacks.specs.declared.effect.Results.{Results}
use Rattle.il_stacks.specs.declared.effect.Results.TheVariants.{Nothing, Always, Twice, SameNumber, AgreedNumber}
use Rattle.il_stacks.specs.declared.effect.Results.TheVariants.{FirstNumber, ReferenceBehind, Element}
use Rattle.il_stacks.specs.declared.effect.Step.{Step}
use Rattle.il_stacks.specs.declared.slot.StackSlot.{StackSlot}
use Rattle.il_stacks.specs.declared.slot.StackSlot.TheVariants.{Int32, Int64, NativeInt, Refs, Pointer, View, Value}
use Rattle.il_stacks.specs.declared.slot.StackSlot.TheVariants.{Conflict}
use Rattle.il_stacks.specs.declared.stack.Stack.{Stack}
use Rattle.il_stacks.specs.declared.stack.Stack.TheVariants.{Slots, Clash}
use Rattle.il_stacks.specs.Types.{same_type, has_type, is_subset, union, element_of, element_of_layer, elements_of}
use Rattle.il_stacks.specs.Types.{nested_within, nested}
use Rattle.il_stacks.specs.Slots.{joined_slot, is_slot_below, is_rising_slot, joined_slots, joined, is_below}
use Rattle.il_stacks.specs.Slots.{are_slots_below}
use Rattle.il_stacks.specs.Effects.{number_of, agreed, if_object, reference_behind, has_objects, element_slot, twice}
use Rattle.il_stacks.specs.Effects.{of_one, of_first, of_two, given, behind}
use Rattle.il_stacks.specs.Bounds.{types_of_slot, slots_of_results, slots_of_effect, slots_of_step, slots_of_handler}
use Rattle.il_stacks.specs.Bounds.{first_slots, types_met, are_sound, is_slot_within, IsWithin, how_many, slot_rank}
use Rattle.il_stacks.specs.Bounds.{slots_rank, stack_rank}
use Rattle.il_stacks.specs.Flow.{entry, entry_slots}
use Rattle.il_stacks.specs.SetLaws.{same_exact, same_itself, same_from, Within, within_from, within_to, union_within}
use Rattle.il_stacks.specs.SetLaws.{rising_elements, elements_from}
use Rattle.il_stacks.specs.SlotLaws.{SlotBelow, to_conflict, int32, int64, native, refs, pointer, weaker, view, value}
use Rattle.il_stacks.specs.SlotLaws.{StackBelow, to_clash, by_slots, stack_from, rising_joined_slot}

-- ---- types inside types

depth_by : (layer : Ty-F Ty) (element : Ty) → element_of_layer layer ≡ Some element
    → depth_step (map-Ty Ty ℕ depth_of layer) ≡ 1 + depth_of element
depth_by (Ty-F.Prim p) element e = cc
depth_by (Ty-F.Named id args) element e = cc
depth_by (Ty-F.Vector inner) element e =
    let same : inner ≡ element = cc in
    ap (λ t. 1 + depth_of t) same
depth_by (Ty-F.ByRef target) element e = cc
depth_by (Ty-F.Var n) element e = cc
depth_by (Ty-F.MVar n) element e = cc
depth_by Ty-F.Canon element e = cc

depth_element : (ty element : Ty) → element_of ty ≡ Some element → depth_of ty ≡ 1 + depth_of element
depth_element ty element e = fold_out-Ty ℕ depth_step ty ∙ depth_by (out-Ty ty) element e

nested_itself : (steps : ℕ) (ty : Ty) → has_type (nested_within steps ty) ty ≡ true
nested_itself zero ty = or_left (same_type ty ty) false (same_itself ty)
nested_itself (suc steps) ty =
    or_left (same_type ty ty) (has_type (option_map_or (nested_within steps) (element_of ty) []) ty) (same_itself ty)

nested_closed : (steps : ℕ) (ty x element : Ty) → depth_of ty ≤ steps → has_type (nested_within steps ty) x ≡ true
    → element_of x ≡ Some element → has_type (nested_within steps ty) element ≡ true
nested_closed zero ty x element deep h e =
    elim (or_cases (same_type x ty) false h) [
      | inl same ↦
          let is : element_of ty ≡ Some element =
          subst (λ t. element_of t ≡ Some element) (same_exact x ty same) e in
          absurd (omega (arith, depth_element ty element is))
      | inr never ↦ cc
    ]
nested_closed (suc steps) ty x element deep h e =
    by (element_of ty) refl h (λ inner near has. nested_closed steps inner x element near has e)
  where
    by : (o : Option Ty) → element_of ty ≡ o
        → (same_type x ty || has_type (option_map_or (nested_within steps) o []) x) ≡ true
        → ((inner : Ty) → depth_of inner ≤ steps → has_type (nested_within steps inner) x ≡ true
        → has_type (nested_within steps inner) element ≡ true)
        → (same_type element ty || has_type (option_map_or (nested_within steps) o []) element) ≡ true
    by None is h more =
        elim (or_cases (same_type x ty) false h) [
          | inl same ↦
              let here : element_of ty ≡ Some element =
              subst (λ t. element_of t ≡ Some element) (same_exact x ty same) e in
              cc
          | inr never ↦ cc
        ]
    by (Some inner) is h more =
        or_right (same_type element ty) (has_type (nested_within steps inner) element)
        (elim (or_cases (same_type x ty) (has_type (nested_within steps inner) x) h) [
          | inl same ↦
              let here : element_of ty ≡ Some element =
              subst (λ t. element_of t ≡ Some element) (same_exact x ty same) e in
              let alike : inner ≡ element = cc in
              subst (λ t. has_type (nested_within steps inner) t ≡ true) alike (nested_itself steps inner)
          | inr there ↦ more inner (omega (arith, depth_element ty inner is)) there
        ])

-- ---- lists of types

or_assoc : (a b c : Bool) → (a || (b || c)) ≡ ((a || b) || c)
or_assoc true b c = refl
or_assoc false b c = refl

has_append : (types others : List Ty) (x : Ty) → has_type (types ++ others) x ≡ (has_type types x || has_type others x)
has_append [] others x = refl
has_append (ty ∷ types) others x =
    ap (λ b. same_type x ty || b) (has_append types others x)
    ∙ or_assoc (same_type x ty) (has_type types x) (has_type others x)

has_left : (types others : List Ty) (x : Ty) → has_type types x ≡ true → has_type (types ++ others) x ≡ true
has_left types others x h = has_append types others x ∙ or_left (has_type types x) (has_type others x) h

has_right : (types others : List Ty) (x : Ty) → has_type others x ≡ true → has_type (types ++ others) x ≡ true
has_right types others x h = has_append types others x ∙ or_right (has_type types x) (has_type others x) h

-- all that is inside the types of a list is closed under elements
abbrev pub IsNestedClosed : List Ty → Type 0
IsNestedClosed met = (ty element : Ty) → has_type met ty ≡ true → element_of ty ≡ Some element
    → has_type met element ≡ true

all_closed : (types : List Ty) → IsNestedClosed (flat_map nested types)
all_closed [] ty element h e = cc
all_closed (first ∷ types) ty element h e =
    elim (or_cases (has_type (nested first) ty) (has_type (flat_map nested types) ty)
    (sym (has_append (nested first) (flat_map nested types) ty) ∙ h)) [
      | inl here ↦
          has_left (nested first) (flat_map nested types) element
          (nested_closed (depth_of first) first ty element (omega arith) here e)
      | inr there ↦
          has_right (nested first) (flat_map nested types) element (all_closed types ty element there e)
    ]

all_nested : (types : List Ty) → Within types (flat_map nested types)
all_nested [] x h = cc
all_nested (first ∷ types) x h =
    elim (or_cases (same_type x first) (has_type types x) h) [
      | inl same ↦
          has_left (nested first) (flat_map nested types) x
          (subst (λ t. has_type (nested first) t ≡ true) (sym (same_exact x first same))
          (nested_itself (depth_of first) first))
      | inr there ↦ has_right (nested first) (flat_map nested types) x (all_nested types x there)
    ]

pub met_closed : (steps : List Step) (handlers : List Handler) → IsNestedClosed (types_met steps handlers)
met_closed steps handlers = all_closed (flat_map types_of_slot (first_slots steps handlers))

-- each of the slots is within
abbrev pub AreAllWithin : List Ty → List StackSlot → Type 0
AreAllWithin met slots = list_all (is_slot_within met) slots ≡ true

within_met : (slots : List StackSlot) (met : List Ty) → list_all is_rising_slot slots ≡ true
    → Within (flat_map types_of_slot slots) met → AreAllWithin met slots
within_met [] met h w = refl
within_met (slot ∷ slots) met h w =
    let parts = and_parts (is_rising_slot slot) (list_all is_rising_slot slots) h in
    and_from (is_slot_within met slot) (list_all (is_slot_within met) slots)
    (and_from (is_rising_slot slot) (is_subset (types_of_slot slot) met) parts.0
    (within_to (types_of_slot slot) met
    (λ x has. w x (has_left (types_of_slot slot) (flat_map types_of_slot slots) x has))))
    (within_met slots met parts.1
    (λ x has. w x (has_right (types_of_slot slot) (flat_map types_of_slot slots) x has)))

-- all first slots are
pub first_within : (steps : List Step) (handlers : List Handler) → are_sound steps handlers ≡ true
    → AreAllWithin (types_met steps handlers) (first_slots steps handlers)
first_within steps handlers h =
    within_met (first_slots steps handlers) (types_met steps handlers) h
    (all_nested (flat_map types_of_slot (first_slots steps handlers)))

pub all_left : (test : StackSlot → Bool) (slots others : List StackSlot) → list_all test (slots ++ others) ≡ true
    → list_all test slots ≡ true
all_left test [] others h = refl
all_left test (slot ∷ slots) others h =
    let parts = and_parts (test slot) (list_all test (slots ++ others)) h in
    and_from (test slot) (list_all test slots) parts.0 (all_left test slots others parts.1)

pub all_right : (test : StackSlot → Bool) (slots others : List StackSlot) → list_all test (slots ++ others) ≡ true
    → list_all test others ≡ true
all_right test [] others h = h
all_right test (slot ∷ slots) others h =
    all_right test slots others (and_parts (test slot) (list_all test (slots ++ others)) h).1

pub all_append : (test : StackSlot → Bool) (slots others : List StackSlot) → list_all test slots ≡ true
    → list_all test others ≡ true → list_all test (slots ++ others) ≡ true
all_append test [] others h h' = h'
all_append test (slot ∷ slots) others h h' =
    let parts = and_parts (test slot) (list_all test slots) h in
    and_from (test slot) (list_all test (slots ++ others)) parts.0 (all_append test slots others parts.1 h')

pub all_take : (test : StackSlot → Bool) (n : ℕ) (slots : List StackSlot) → list_all test slots ≡ true
    → list_all test (take n slots) ≡ true
all_take test zero slots h = refl
all_take test (suc n) [] h = refl
all_take test (suc n) (slot ∷ slots) h =
    let parts = and_parts (test slot) (list_all test slots) h in
    and_from (test slot) (list_all test (take n slots)) parts.0 (all_take test n slots parts.1)

pub all_drop : (test : StackSlot → Bool) (n : ℕ) (slots : List StackSlot) → list_all test slots ≡ true
    → list_all test (drop n slots) ≡ true
all_drop test zero slots h = h
all_drop test (suc n) [] h = refl
all_drop test (suc n) (slot ∷ slots) h = all_drop test n slots (and_parts (test slot) (list_all test slots) h).1

-- those of one of some parts are among all
pub all_of_part : {A : Type 0} (test : StackSlot → Bool) (part : A → List StackSlot) (xs : List A) (x : A) (k : ℕ)
    → k < length xs → slice_index_or xs k x ≡ x → list_all test (flat_map part xs) ≡ true
    → list_all test (part x) ≡ true
all_of_part test part [] x k inside is h = absurd (omega arith)
all_of_part test part (y ∷ xs) x zero inside is h =
    subst (λ z. list_all test (part z) ≡ true) is (all_left test (part y) (flat_map part xs) h)
all_of_part test part (y ∷ xs) x (suc k) inside is h =
    all_of_part test part xs x k (omega arith) is (all_right test (part y) (flat_map part xs) h)

pub step_within : (steps : List Step) (handlers : List Handler) (step : Step) → are_sound steps handlers ≡ true
    → Contains steps step → AreAllWithin (types_met steps handlers) (slots_of_step step)
step_within steps handlers step h there =
    let met = types_met steps handlers in
    all_of_part (is_slot_within met) slots_of_step steps step there.0 there.1 there.2
    (all_left (is_slot_within met) (flat_map slots_of_step steps) (flat_map slots_of_handler handlers)
    (first_within steps handlers h))

pub handler_within : (steps : List Step) (handlers : List Handler) (handler : Handler)
    → are_sound steps handlers ≡ true → Contains handlers handler
    → AreAllWithin (types_met steps handlers) (slots_of_handler handler)
handler_within steps handlers handler h there =
    let met = types_met steps handlers in
    all_of_part (is_slot_within met) slots_of_handler handlers handler there.0 there.1 there.2
    (all_right (is_slot_within met) (flat_map slots_of_step steps) (flat_map slots_of_handler handlers)
    (first_within steps handlers h))

-- ---- what is passed on is within

number_within : (met : List Ty) (slot : StackSlot) → is_slot_within met (number_of slot) ≡ true
number_within met Int32 = refl
number_within met Int64 = refl
number_within met NativeInt = refl
number_within met (Refs types) = refl
number_within met (Pointer ty) = refl
number_within met (View ty) = refl
number_within met (Value ty) = refl
number_within met Conflict = refl

agreed_within : (met : List Ty) (a b : StackSlot) → is_slot_within met (agreed a b) ≡ true
agreed_within met Int32 Int32 = refl
agreed_within met Int64 Int64 = refl
agreed_within met NativeInt NativeInt = refl
agreed_within met Int32 NativeInt = refl
agreed_within met NativeInt Int32 = refl
agreed_within met _ _ = refl

object_within : (met : List Ty) (objects : Ty → Bool) (ty : Ty) → is_subset (ty ∷ []) met ≡ true
    → is_slot_within met (if_object objects ty) ≡ true
object_within met objects ty h = by (objects ty)
  where
    by : (t : Bool) → is_slot_within met (cond t (Refs (ty ∷ [])) Conflict) ≡ true
    by true = h
    by false = refl

reference_within : (met : List Ty) (objects : Ty → Bool) (slot : StackSlot) → is_slot_within met slot ≡ true
    → is_slot_within met (reference_behind objects slot) ≡ true
reference_within met objects Int32 h = refl
reference_within met objects Int64 h = refl
reference_within met objects NativeInt h = refl
reference_within met objects (Refs types) h = refl
reference_within met objects (Pointer ty) h = object_within met objects ty h
reference_within met objects (View ty) h = object_within met objects ty h
reference_within met objects (Value ty) h = refl
reference_within met objects Conflict h = refl

elements_within_met : (met : List Ty) (objects : Ty → Bool) (types : List Ty) → IsNestedClosed met
    → is_slot_within met (Refs types) ≡ true → is_slot_within met (element_slot objects (Refs types)) ≡ true
elements_within_met met objects types closed h = by (list_all (has_objects objects) types)
  where
    inside : Within types met
    inside = within_from types met (and_parts (is_rising_slot (Refs types)) (is_subset types met) h).1

    by : (t : Bool) → is_slot_within met (cond t (Refs (elements_of types)) Conflict) ≡ true
    by true =
        and_from (is_rising_slot (Refs (elements_of types))) (is_subset (elements_of types) met) (rising_elements types)
        (within_to (elements_of types) met (λ x has.
        let found = elements_from types x has in closed found.0 x (inside found.0 found.1) found.2))
    by false = refl

element_within : (met : List Ty) (objects : Ty → Bool) (slot : StackSlot) → IsNestedClosed met
    → is_slot_within met slot ≡ true → is_slot_within met (element_slot objects slot) ≡ true
element_within met objects Int32 closed h = refl
element_within met objects Int64 closed h = refl
element_within met objects NativeInt closed h = refl
element_within met objects (Refs types) closed h = elements_within_met met objects types closed h
element_within met objects (Pointer ty) closed h = refl
element_within met objects (View ty) closed h = refl
element_within met objects (Value ty) closed h = refl
element_within met objects Conflict closed h = refl

one_within : (met : List Ty) (slot : StackSlot) → is_slot_within met slot ≡ true → AreAllWithin met (slot ∷ [])
one_within met slot h = and_from (is_slot_within met slot) true h refl

of_one_within : (met : List Ty) (result : StackSlot → StackSlot)
    → ((slot : StackSlot) → is_slot_within met slot ≡ true → is_slot_within met (result slot) ≡ true)
    → (xs : List StackSlot) → AreAllWithin met xs → AreAllWithin met (of_one result xs)
of_one_within met result keeps [] h = refl
of_one_within met result keeps (x ∷ []) h =
    one_within met (result x) (keeps x (and_parts (is_slot_within met x) true h).0)
of_one_within met result keeps (x ∷ (y ∷ xs)) h = refl

of_first_within : (met : List Ty) (result : StackSlot → StackSlot)
    → ((slot : StackSlot) → is_slot_within met slot ≡ true → is_slot_within met (result slot) ≡ true)
    → (xs : List StackSlot) → AreAllWithin met xs → AreAllWithin met (of_first result xs)
of_first_within met result keeps [] h = refl
of_first_within met result keeps (x ∷ []) h = refl
of_first_within met result keeps (x ∷ (y ∷ [])) h =
    one_within met (result x)
    (keeps x (and_parts (is_slot_within met x) (list_all (is_slot_within met) (y ∷ [])) h).0)
of_first_within met result keeps (x ∷ (y ∷ (z ∷ xs))) h = refl

of_two_within : (met : List Ty) (result : StackSlot → StackSlot → StackSlot)
    → ((a b : StackSlot) → is_slot_within met (result a b) ≡ true) → (xs : List StackSlot)
    → AreAllWithin met (of_two result xs)
of_two_within met result all [] = refl
of_two_within met result all (x ∷ []) = refl
of_two_within met result all (x ∷ (y ∷ [])) = one_within met (result x y) (all x y)
of_two_within met result all (x ∷ (y ∷ (z ∷ xs))) = refl

twice_within : (met : List Ty) (xs : List StackSlot) → AreAllWithin met xs → AreAllWithin met (twice xs)
twice_within met [] h = refl
twice_within met (x ∷ []) h = and_from (is_slot_within met x) (list_all (is_slot_within met) (x ∷ []))
    (and_parts (is_slot_within met x) true h).0 h
twice_within met (x ∷ (y ∷ xs)) h = h

given_within : (met : List Ty) (objects : Ty → Bool) (results : Results) (xs : List StackSlot) → IsNestedClosed met
    → AreAllWithin met (slots_of_results results) → AreAllWithin met xs → AreAllWithin met (given objects results xs)
given_within met objects Nothing xs closed r h = refl
given_within met objects (Always slot) xs closed r h = r
given_within met objects Twice xs closed r h = twice_within met xs h
given_within met objects SameNumber xs closed r h =
    of_one_within met number_of (λ slot within. number_within met slot) xs h
given_within met objects AgreedNumber xs closed r h = of_two_within met agreed (agreed_within met) xs
given_within met objects FirstNumber xs closed r h =
    of_first_within met number_of (λ slot within. number_within met slot) xs h
given_within met objects ReferenceBehind xs closed r h =
    of_one_within met (reference_behind objects) (reference_within met objects) xs h
given_within met objects Element xs closed r h =
    of_first_within met (element_slot objects) (λ slot within. element_within met objects slot closed within) xs h

given_short : (objects : Ty → Bool) (results : Results) (xs : List StackSlot)
    → length (given objects results xs) ≤ length xs + 1
given_short objects Nothing xs = omega arith
given_short objects (Always slot) xs = omega arith
given_short objects Twice [] = omega arith
given_short objects Twice (x ∷ []) = omega arith
given_short objects Twice (x ∷ (y ∷ xs)) = omega arith
given_short objects SameNumber [] = omega arith
given_short objects SameNumber (x ∷ []) = omega arith
given_short objects SameNumber (x ∷ (y ∷ xs)) = omega arith
given_short objects AgreedNumber [] = omega arith
given_short objects AgreedNumber (x ∷ []) = omega arith
given_short objects AgreedNumber (x ∷ (y ∷ [])) = omega arith
given_short objects AgreedNumber (x ∷ (y ∷ (z ∷ xs))) = omega arith
given_short objects FirstNumber [] = omega arith
given_short objects FirstNumber (x ∷ []) = omega arith
given_short objects FirstNumber (x ∷ (y ∷ [])) = omega arith
given_short objects FirstNumber (x ∷ (y ∷ (z ∷ xs))) = omega arith
given_short objects ReferenceBehind [] = omega arith
given_short objects ReferenceBehind (x ∷ []) = omega arith
given_short objects ReferenceBehind (x ∷ (y ∷ xs)) = omega arith
given_short objects Element [] = omega arith
given_short objects Element (x ∷ []) = omega arith
given_short objects Element (x ∷ (y ∷ [])) = omega arith
given_short objects Element (x ∷ (y ∷ (z ∷ xs))) = omega arith

taken_within : (met : List Ty) (objects : Ty → Bool) (count depth : ℕ) (results : Results) (slots : List StackSlot)
    → IsNestedClosed met → AreAllWithin met (slots_of_results results) → IsWithin met depth (Slots slots)
    → IsWithin met (depth + 1) (behind objects (Takes count results) (Slots slots))
taken_within met objects count depth results slots closed r h =
    by (cond (nat_lt (length slots) count) false true)
  where
    by : (t : Bool) → IsWithin met (depth + 1)
        (cond t (Slots (take (length slots - count) slots
        ++ given objects results (drop (length slots - count) slots))) Clash)
    by true = (
      omega (
        arith,
        length-append (take (length slots - count) slots)
            (given objects results (drop (length slots - count) slots)),
        length-take (length slots - count) slots,
        length-drop (length slots - count) slots,
        given_short objects results (drop (length slots - count) slots),
        h.0,
      ),
      all_append (is_slot_within met) (take (length slots - count) slots)
          (given objects results (drop (length slots - count) slots))
          (all_take (is_slot_within met) (length slots - count) slots h.1)
          (given_within met objects results (drop (length slots - count) slots) closed r
          (all_drop (is_slot_within met) (length slots - count) slots h.1)),
    )
    by false = tt

pub behind_within : (met : List Ty) (objects : Ty → Bool) (effect : Effect) (depth : ℕ) (stack : Stack)
    → IsNestedClosed met → AreAllWithin met (slots_of_effect effect) → IsWithin met depth stack
    → IsWithin met (depth + 1) (behind objects effect stack)
behind_within met objects effect depth Clash closed r h = tt
behind_within met objects Empties depth (Slots slots) closed r h = (omega arith, refl)
behind_within met objects (Takes count results) depth (Slots slots) closed r h =
    taken_within met objects count depth results slots closed r h
behind_within met objects Unknown depth (Slots slots) closed r h = tt

pub entry_within : (met : List Ty) (handler : Handler) (depth : ℕ) → AreAllWithin met (slots_of_handler handler)
    → IsWithin met (depth + 1) (entry handler).1
entry_within met handler depth h = by handler.caught h
  where
    by : (o : Option StackSlot) → AreAllWithin met (option_map_or (λ slot. slot ∷ []) o [])
        → IsWithin met (depth + 1) (Slots (entry_slots o))
    by None h = (omega arith, refl)
    by (Some slot) h = (omega arith, h)

pub widens : (met : List Ty) (m n : ℕ) (a : Stack) → m ≤ n → IsWithin met m a → IsWithin met n a
widens met m n (Slots slots) h w = (omega (arith, w.0), w.1)
widens met m n Clash h w = tt

-- ---- what is joined is within

types_if_same : (met : List Ty) (t : Bool) (slot : StackSlot) → is_slot_within met slot ≡ true
    → is_slot_within met (cond t slot Conflict) ≡ true
types_if_same met true slot h = h
types_if_same met false slot h = refl

joined_slot_within : (met : List Ty) (a b : StackSlot) → is_slot_within met a ≡ true → is_slot_within met b ≡ true
    → is_slot_within met (joined_slot a b) ≡ true
joined_slot_within met Int32 Int32 h h' = refl
joined_slot_within met Int64 Int64 h h' = refl
joined_slot_within met NativeInt NativeInt h h' = refl
joined_slot_within met (Refs types) (Refs others) h h' =
    let parts = and_parts (is_rising_slot (Refs types)) (is_subset types met) h in
    let parts' = and_parts (is_rising_slot (Refs others)) (is_subset others met) h' in
    and_from (is_rising_slot (Refs (union types others))) (is_subset (union types others) met)
    (rising_joined_slot (Refs types) (Refs others) parts'.0)
    (within_to (union types others) met
    (union_within types others met (within_from types met parts.1) (within_from others met parts'.1)))
joined_slot_within met (Pointer a) (Pointer b) h h' = types_if_same met (same_type a b) (Pointer a) h
joined_slot_within met (Pointer a) (View b) h h' = types_if_same met (same_type a b) (View a) h
joined_slot_within met (View a) (Pointer b) h h' = types_if_same met (same_type a b) (View a) h
joined_slot_within met (View a) (View b) h h' = types_if_same met (same_type a b) (View a) h
joined_slot_within met (Value a) (Value b) h h' = types_if_same met (same_type a b) (Value a) refl
joined_slot_within met _ _ h h' = refl

joined_slots_within : (met : List Ty) (a b : List StackSlot) → AreAllWithin met a → AreAllWithin met b
    → AreAllWithin met (joined_slots a b)
joined_slots_within met [] b h h' = refl
joined_slots_within met (x ∷ a) [] h h' = refl
joined_slots_within met (x ∷ a) (y ∷ b) h h' =
    let parts = and_parts (is_slot_within met x) (list_all (is_slot_within met) a) h in
    let parts' = and_parts (is_slot_within met y) (list_all (is_slot_within met) b) h' in
    and_from (is_slot_within met (joined_slot x y)) (list_all (is_slot_within met) (joined_slots a b))
    (joined_slot_within met x y parts.0 parts'.0) (joined_slots_within met a b parts.1 parts'.1)

joined_long : (a b : List StackSlot) → length (joined_slots a b) ≤ length a
joined_long [] b = omega arith
joined_long (x ∷ a) [] = omega arith
joined_long (x ∷ a) (y ∷ b) = omega (arith, joined_long a b)

pub joined_within : (met : List Ty) (m n : ℕ) (a b : Stack) → IsWithin met m a → IsWithin met n b
    → IsWithin met m (joined a b)
joined_within met m n (Slots a) (Slots b) h h' = by (length a == length b)
  where
    by : (t : Bool) → IsWithin met m (cond t (Slots (joined_slots a b)) Clash)
    by true = (omega (arith, joined_long a b, h.0), joined_slots_within met a b h.1 h'.1)
    by false = tt
joined_within met m n (Slots a) Clash h h' = tt
joined_within met m n Clash b h h' = tt

-- ---- ranks

how_many-bound : (met types : List Ty) → how_many met types ≤ length met
how_many-bound [] types = omega arith
how_many-bound (ty ∷ met) types = by (has_type types ty) (how_many-bound met types)
  where
    by : (t : Bool) → how_many met types ≤ length met → cond t 1 0 + how_many met types ≤ suc (length met)
    by true h = omega (arith, h)
    by false h = omega (arith, h)

fewer_by : (t t' : Bool) → (t ≡ true → t' ≡ true) → cond {A = ℕ} t 1 0 ≤ cond t' 1 0
fewer_by true true h = omega arith
fewer_by true false h = let e : false ≡ true = h refl in cc
fewer_by false true h = omega arith
fewer_by false false h = omega arith

how_many-grows : (met types others : List Ty) → Within types others → how_many met types ≤ how_many met others
how_many-grows [] types others w = omega arith
how_many-grows (ty ∷ met) types others w =
    omega (arith, fewer_by (has_type types ty) (has_type others ty) (w ty), how_many-grows met types others w)

how_many-more : (met types others : List Ty) (x : Ty) → Within types others → has_type met x ≡ true
    → has_type others x ≡ true → has_type types x ≡ false → how_many met types < how_many met others
how_many-more [] types others x w h has lacks = cc
how_many-more (ty ∷ met) types others x w h has lacks =
    elim (or_cases (same_type x ty) (has_type met x) h) [
      | inl same ↦
          let is : x ≡ ty = same_exact x ty same in
          let has' : has_type others ty ≡ true = subst (λ t. has_type others t ≡ true) is has in
          let lacks' : has_type types ty ≡ false = subst (λ t. has_type types t ≡ false) is lacks in
          let none : cond {A = ℕ} (has_type types ty) 1 0 ≡ 0 = ap (λ t. cond t 1 0) lacks' in
          let one : cond {A = ℕ} (has_type others ty) 1 0 ≡ 1 = ap (λ t. cond t 1 0) has' in
          omega (arith, none, one, how_many-grows met types others w)
      | inr there ↦
          omega (
            arith,
            fewer_by (has_type types ty) (has_type others ty) (w ty),
            how_many-more met types others x w there has lacks,
          )
    ]

-- what isn't a subset has a type that is lacking
lacking : (types others : List Ty) → is_subset types others ≡ false
    → (x : Ty) × (has_type types x ≡ true) × (has_type others x ≡ false)
lacking [] others h = cc
lacking (ty ∷ types) others h =
    elim (and_cases (has_type others ty) (is_subset types others) h) [
      | inl lacks ↦ (ty, or_left (same_type ty ty) (has_type types ty) (same_itself ty), lacks)
      | inr later ↦
          let found = lacking types others later in
          (found.0, or_right (same_type found.0 ty) (has_type types found.0) found.1, found.2)
    ]

slot_rank-bound : (met : List Ty) (a : StackSlot) → slot_rank met a ≤ 2 + length met
slot_rank-bound met Int32 = omega arith
slot_rank-bound met Int64 = omega arith
slot_rank-bound met NativeInt = omega arith
slot_rank-bound met (Refs types) = omega (arith, how_many-bound met types)
slot_rank-bound met (Pointer ty) = omega arith
slot_rank-bound met (View ty) = omega arith
slot_rank-bound met (Value ty) = omega arith
slot_rank-bound met Conflict = omega arith

slots_rank-bound : (met : List Ty) (slots : List StackSlot) → slots_rank met slots ≤ length slots * (2 + length met)
slots_rank-bound met [] = omega arith
slots_rank-bound met (slot ∷ slots) = omega (arith, slot_rank-bound met slot, slots_rank-bound met slots)

slot_rank-grows : (met : List Ty) (a b : StackSlot) → SlotBelow a b → slot_rank met a ≤ slot_rank met b
slot_rank-grows met _ _ (to_conflict a) = slot_rank-bound met a
slot_rank-grows met _ _ int32 = omega arith
slot_rank-grows met _ _ int64 = omega arith
slot_rank-grows met _ _ native = omega arith
slot_rank-grows met _ _ (refs types others w) = how_many-grows met types others w
slot_rank-grows met _ _ (pointer a b e) = omega arith
slot_rank-grows met _ _ (weaker a b e) = omega arith
slot_rank-grows met _ _ (view a b e) = omega arith
slot_rank-grows met _ _ (value a b e) = omega arith

conflict_rank : (met : List Ty) (a : StackSlot) → is_slot_below Conflict a ≡ false
    → slot_rank met a < slot_rank met Conflict
conflict_rank met Int32 h = omega arith
conflict_rank met Int64 h = omega arith
conflict_rank met NativeInt h = omega arith
conflict_rank met (Refs types) h = omega (arith, how_many-bound met types)
conflict_rank met (Pointer ty) h = omega arith
conflict_rank met (View ty) h = omega arith
conflict_rank met (Value ty) h = omega arith
conflict_rank met Conflict h = cc

slot_rank-more : (met : List Ty) (a b : StackSlot) → SlotBelow a b → is_slot_below b a ≡ false
    → is_slot_within met b ≡ true → slot_rank met a < slot_rank met b
slot_rank-more met _ _ (to_conflict a) h within = conflict_rank met a h
slot_rank-more met _ _ int32 h within = cc
slot_rank-more met _ _ int64 h within = cc
slot_rank-more met _ _ native h within = cc
slot_rank-more met _ _ (refs types others w) h within =
    let found = lacking others types h in
    how_many-more met types others found.0 w
    (within_from others met (and_parts (is_rising_slot (Refs others)) (is_subset others met) within).1 found.0 found.1)
    found.1 found.2
slot_rank-more met _ _ (pointer a b e) h within = let same = same_from b a (sym e) in cc
slot_rank-more met _ _ (weaker a b e) h within = omega arith
slot_rank-more met _ _ (view a b e) h within = let same = same_from b a (sym e) in cc
slot_rank-more met _ _ (value a b e) h within = let same = same_from b a (sym e) in cc

slots_rank-grows : (met : List Ty) (a b : List StackSlot) → AllZip SlotBelow a b → slots_rank met a ≤ slots_rank met b
slots_rank-grows met [] [] h = omega arith
slots_rank-grows met [] (y ∷ b) h = absurd h
slots_rank-grows met (x ∷ a) [] h = absurd h
slots_rank-grows met (x ∷ a) (y ∷ b) h =
    omega (arith, slot_rank-grows met x y h.0, slots_rank-grows met a b h.1)

slots_rank-more : (met : List Ty) (a b : List StackSlot) → AllZip SlotBelow a b → are_slots_below b a ≡ false
    → AreAllWithin met b → slots_rank met a < slots_rank met b
slots_rank-more met [] [] h lacks within = cc
slots_rank-more met [] (y ∷ b) h lacks within = absurd h
slots_rank-more met (x ∷ a) [] h lacks within = absurd h
slots_rank-more met (x ∷ a) (y ∷ b) h lacks within =
    let parts = and_parts (is_slot_within met y) (list_all (is_slot_within met) b) within in
    elim (and_cases (is_slot_below y x) (are_slots_below b a) lacks) [
      | inl here ↦
          omega (arith, slot_rank-more met x y h.0 here parts.0, slots_rank-grows met a b h.1)
      | inr there ↦
          omega (arith, slot_rank-grows met x y h.0, slots_rank-more met a b h.1 there parts.1)
    ]

slots_rank-clash : (met : List Ty) (depth : ℕ) (slots : List StackSlot) → length slots ≤ depth
    → slots_rank met slots < 1 + depth * (2 + length met)
slots_rank-clash met depth slots h =
    let most : length slots * (2 + length met) ≤ depth * (2 + length met) = grind arith in
    omega (arith, slots_rank-bound met slots, most)

grows_by : (met : List Ty) (depth : ℕ) (a b : Stack) → IsWithin met depth a → StackBelow a b
    → stack_rank met depth a ≤ stack_rank met depth b
grows_by met depth _ _ within (to_clash (Slots slots)) = omega (arith, slots_rank-clash met depth slots within.0)
grows_by met depth _ _ within (to_clash Clash) = omega arith
grows_by met depth _ _ within (by_slots a b h) = slots_rank-grows met a b h

-- what tells less has no lower rank
pub rank_grows : (met : List Ty) (depth : ℕ) (a b : Stack) → IsWithin met depth a → is_below a b ≡ true
    → stack_rank met depth a ≤ stack_rank met depth b
rank_grows met depth a b within h = grows_by met depth a b within (stack_from a b h)

more_by : (met : List Ty) (depth n : ℕ) (a b : Stack) → IsWithin met depth a → IsWithin met n b → StackBelow a b
    → is_below b a ≡ false → stack_rank met depth a < stack_rank met depth b
more_by met depth n _ _ within within' (to_clash (Slots slots)) lacks = slots_rank-clash met depth slots within.0
more_by met depth n _ _ within within' (to_clash Clash) lacks = cc
more_by met depth n _ _ within within' (by_slots a b h) lacks = slots_rank-more met a b h lacks within'.1

-- and a higher one, if it does tell less
pub rank_more : (met : List Ty) (depth n : ℕ) (a b : Stack) → IsWithin met depth a → IsWithin met n b
    → is_below a b ≡ true → is_below b a ≡ false → stack_rank met depth a < stack_rank met depth b
rank_more met depth n a b within within' h lacks = more_by met depth n a b within within' (stack_from a b h) lacks

pub bounded : (met : List Ty) (depth : ℕ) (a : Stack) → IsWithin met depth a
    → stack_rank met depth a ≤ 1 + depth * (2 + length met)
bounded met depth (Slots slots) within = omega (arith, slots_rank-clash met depth slots within.0)
bounded met depth Clash within = omega arith
