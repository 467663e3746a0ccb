-- Laws of slots and stacks: what is known of them has an order, in which what is joined is the least above both.
use Rattle.std.proofs.Common.{◌≡◌, refl, sym, ap, ◌∙◌, Bool, true, false, cond, List, [], ◌∷◌, length}
use Rattle.std.proofs.Common.{arith}
use Rattle.std.specs.Prelude.{◌==◌}
use Rattle.std.specs.List.{AllZip, list_all}
use Rattle.std.proofs.lemmas.Bool.{and_parts, and_from, eqb-true, eq-eqb}
use Rattle.ty_terms.specs.declared.ty.Ty.{Ty}
use Rattle.il_stacks.specs.declared.slot.StackSlot.{StackSlot}
use Rattle.il_stacks.specs.declared.slot.StackSlot.TheVariants.{Int32, Int64, NativeInt, Refs, Pointer, View, Value}
use Rattle.il_stacks.specs.declared.slot.StackSlot.TheVariants.{Conflict}
use Rattle.il_stacks.specs.declared.stack.Stack.{Stack}
use Rattle.il_stacks.specs.declared.stack.Stack.TheVariants.{Slots, Clash}
use Rattle.il_stacks.specs.Types.{same_type, union}
use Rattle.il_stacks.specs.Slots.{if_same, joined_slot, is_slot_below, joined_slots, joined, are_slots_below, is_below}
use Rattle.il_stacks.specs.Slots.{is_rising_slot, is_rising_stack}
use Rattle.il_stacks.specs.SetLaws.{same_exact, same_from, Within, within_from, within_to}
use Rattle.il_stacks.specs.SetLaws.{within_union_left, within_union_right, union_within, rising_union, same_sets}

-- ---- the order of slots, by cases

-- the first slot tells all that the second does
pub data SlotBelow : StackSlot → StackSlot → Type 0 where
  to_conflict : (a : StackSlot) → SlotBelow a Conflict
  int32 : SlotBelow Int32 Int32
  int64 : SlotBelow Int64 Int64
  native : SlotBelow NativeInt NativeInt
  refs : (types others : List Ty) → Within types others → SlotBelow (Refs types) (Refs others)
  pointer : (a b : Ty) → a ≡ b → SlotBelow (Pointer a) (Pointer b)
  weaker : (a b : Ty) → a ≡ b → SlotBelow (Pointer a) (View b)
  view : (a b : Ty) → a ≡ b → SlotBelow (View a) (View b)
  value : (a b : Ty) → a ≡ b → SlotBelow (Value a) (Value b)

pub slot_from : (a b : StackSlot) → is_slot_below a b ≡ true → SlotBelow a b
slot_from a Conflict h = to_conflict a
slot_from Int32 Int32 h = int32
slot_from Int64 Int64 h = int64
slot_from NativeInt NativeInt h = native
slot_from (Refs types) (Refs others) h = refs types others (within_from types others h)
slot_from (Pointer a) (Pointer b) h = pointer a b (same_exact a b h)
slot_from (Pointer a) (View b) h = weaker a b (same_exact a b h)
slot_from (View a) (View b) h = view a b (same_exact a b h)
slot_from (Value a) (Value b) h = value a b (same_exact a b h)
slot_from _ _ h = cc

below_conflict : (a : StackSlot) → is_slot_below a Conflict ≡ true
below_conflict Int32 = refl
below_conflict Int64 = refl
below_conflict NativeInt = refl
below_conflict (Refs types) = refl
below_conflict (Pointer ty) = refl
below_conflict (View ty) = refl
below_conflict (Value ty) = refl
below_conflict Conflict = refl

pub slot_to : (a b : StackSlot) → SlotBelow a b → is_slot_below a b ≡ true
slot_to _ _ (to_conflict a) = below_conflict a
slot_to _ _ int32 = refl
slot_to _ _ int64 = refl
slot_to _ _ native = refl
slot_to _ _ (refs types others w) = within_to types others w
slot_to _ _ (pointer a b e) = same_from a b e
slot_to _ _ (weaker a b e) = same_from a b e
slot_to _ _ (view a b e) = same_from a b e
slot_to _ _ (value a b e) = same_from a b e

pub slot_refl : (a : StackSlot) → SlotBelow a a
slot_refl Int32 = int32
slot_refl Int64 = int64
slot_refl NativeInt = native
slot_refl (Refs types) = refs types types (λ x h. h)
slot_refl (Pointer ty) = pointer ty ty refl
slot_refl (View ty) = view ty ty refl
slot_refl (Value ty) = value ty ty refl
slot_refl Conflict = to_conflict Conflict

pub slot_trans : (a b c : StackSlot) → SlotBelow a b → SlotBelow b c → SlotBelow a c
slot_trans a _ _ h (to_conflict b) = to_conflict a
slot_trans a _ _ h int32 = h
slot_trans a _ _ h int64 = h
slot_trans a _ _ h native = h
slot_trans _ _ _ (refs types others w) (refs others' further w') = refs types further (λ x h. w' x (w x h))
slot_trans _ _ _ (pointer a b e) (pointer b' c e') = pointer a c (e ∙ e')
slot_trans _ _ _ (pointer a b e) (weaker b' c e') = weaker a c (e ∙ e')
slot_trans _ _ _ (weaker a b e) (view b' c e') = weaker a c (e ∙ e')
slot_trans _ _ _ (view a b e) (view b' c e') = view a c (e ∙ e')
slot_trans _ _ _ (value a b e) (value b' c e') = value a c (e ∙ e')

-- ---- what is joined

if_same_above : (c : StackSlot) (t : Bool) (slot : StackSlot) → (t ≡ true → SlotBelow c slot)
    → SlotBelow c (cond t slot Conflict)
if_same_above c true slot h = h refl
if_same_above c false slot h = to_conflict c

pub slot_grows : (a b : StackSlot) → SlotBelow a (joined_slot a b)
slot_grows Int32 Int32 = int32
slot_grows Int64 Int64 = int64
slot_grows NativeInt NativeInt = native
slot_grows (Refs types) (Refs others) = refs types (union types others) (within_union_left types others)
slot_grows (Pointer a) (Pointer b) = if_same_above (Pointer a) (same_type a b) (Pointer a) (λ e. pointer a a refl)
slot_grows (Pointer a) (View b) = if_same_above (Pointer a) (same_type a b) (View a) (λ e. weaker a a refl)
slot_grows (View a) (Pointer b) = if_same_above (View a) (same_type a b) (View a) (λ e. view a a refl)
slot_grows (View a) (View b) = if_same_above (View a) (same_type a b) (View a) (λ e. view a a refl)
slot_grows (Value a) (Value b) = if_same_above (Value a) (same_type a b) (Value a) (λ e. value a a refl)
slot_grows a _ = to_conflict a

pub slot_told : (a b : StackSlot) → SlotBelow b (joined_slot a b)
slot_told Int32 Int32 = int32
slot_told Int64 Int64 = int64
slot_told NativeInt NativeInt = native
slot_told (Refs types) (Refs others) = refs others (union types others) (within_union_right types others)
slot_told (Pointer a) (Pointer b) =
    if_same_above (Pointer b) (same_type a b) (Pointer a) (λ e. pointer b a (sym (same_exact a b e)))
slot_told (Pointer a) (View b) =
    if_same_above (View b) (same_type a b) (View a) (λ e. view b a (sym (same_exact a b e)))
slot_told (View a) (Pointer b) =
    if_same_above (Pointer b) (same_type a b) (View a) (λ e. weaker b a (sym (same_exact a b e)))
slot_told (View a) (View b) =
    if_same_above (View b) (same_type a b) (View a) (λ e. view b a (sym (same_exact a b e)))
slot_told (Value a) (Value b) =
    if_same_above (Value b) (same_type a b) (Value a) (λ e. value b a (sym (same_exact a b e)))
slot_told _ b = to_conflict b

if_same_below : (a b : Ty) (slot c : StackSlot) → a ≡ b → SlotBelow slot c → SlotBelow (if_same a b slot) c
if_same_below a b slot c e h = by (same_type a b) (same_from a b e)
  where
    by : (t : Bool) → t ≡ true → SlotBelow (cond t slot Conflict) c
    by true e = h
    by false e = cc

pub slot_least : (a b c : StackSlot) → SlotBelow a c → SlotBelow b c → SlotBelow (joined_slot a b) c
slot_least _ _ _ (to_conflict a) (to_conflict b) = to_conflict (joined_slot a b)
slot_least _ _ _ int32 int32 = int32
slot_least _ _ _ int64 int64 = int64
slot_least _ _ _ native native = native
slot_least _ _ _ (refs types others w) (refs types' others' w') =
    refs (union types types') others' (union_within types types' others' w w')
slot_least _ _ _ (pointer a c e) (pointer b c' e') =
    if_same_below a b (Pointer a) (Pointer c') (e ∙ sym e') (pointer a c' e)
slot_least _ _ _ (weaker a c e) (weaker b c' e') =
    if_same_below a b (Pointer a) (View c') (e ∙ sym e') (weaker a c' e)
slot_least _ _ _ (weaker a c e) (view b c' e') = if_same_below a b (View a) (View c') (e ∙ sym e') (view a c' e)
slot_least _ _ _ (view a c e) (weaker b c' e') = if_same_below a b (View a) (View c') (e ∙ sym e') (view a c' e)
slot_least _ _ _ (view a c e) (view b c' e') = if_same_below a b (View a) (View c') (e ∙ sym e') (view a c' e)
slot_least _ _ _ (value a c e) (value b c' e') = if_same_below a b (Value a) (Value c') (e ∙ sym e') (value a c' e)

-- slots that tell the same are one, where their types are in order
pub slot_same : (a b : StackSlot) → is_rising_slot a ≡ true → is_rising_slot b ≡ true → SlotBelow a b → SlotBelow b a
    → a ≡ b
slot_same _ _ r r' (to_conflict a) (to_conflict b) = refl
slot_same _ _ r r' int32 h = refl
slot_same _ _ r r' int64 h = refl
slot_same _ _ r r' native h = refl
slot_same _ _ r r' (refs types others w) (refs others' types' w') =
    ap (λ t. Refs t) (same_sets types others r r' w w')
slot_same _ _ r r' (pointer a b e) h = ap (λ t. Pointer t) e
slot_same _ _ r r' (weaker a b e) h = elim h [ ]
slot_same _ _ r r' (view a b e) h = ap (λ t. View t) e
slot_same _ _ r r' (value a b e) h = ap (λ t. Value t) e

-- ---- stacks

-- the first stack tells all that the second does
pub data StackBelow : Stack → Stack → Type 0 where
  to_clash : (a : Stack) → StackBelow a Clash
  by_slots : (slots others : List StackSlot) → AllZip SlotBelow slots others → StackBelow (Slots slots) (Slots others)

slots_from : (slots others : List StackSlot) → are_slots_below slots others ≡ true → AllZip SlotBelow slots others
slots_from [] [] h = tt
slots_from [] (b ∷ others) h = cc
slots_from (a ∷ slots) [] h = cc
slots_from (a ∷ slots) (b ∷ others) h =
    let parts = and_parts (is_slot_below a b) (are_slots_below slots others) h in
    (slot_from a b parts.0, slots_from slots others parts.1)

slots_to : (slots others : List StackSlot) → AllZip SlotBelow slots others → are_slots_below slots others ≡ true
slots_to [] [] h = refl
slots_to [] (b ∷ others) h = absurd h
slots_to (a ∷ slots) [] h = absurd h
slots_to (a ∷ slots) (b ∷ others) h =
    and_from (is_slot_below a b) (are_slots_below slots others) (slot_to a b h.0) (slots_to slots others h.1)

pub stack_from : (a b : Stack) → is_below a b ≡ true → StackBelow a b
stack_from a Clash h = to_clash a
stack_from (Slots slots) (Slots others) h = by_slots slots others (slots_from slots others h)
stack_from Clash (Slots others) h = cc

below_clash : (a : Stack) → is_below a Clash ≡ true
below_clash (Slots slots) = refl
below_clash Clash = refl

pub stack_to : (a b : Stack) → StackBelow a b → is_below a b ≡ true
stack_to _ _ (to_clash a) = below_clash a
stack_to _ _ (by_slots slots others h) = slots_to slots others h

pub slots_refl : (slots : List StackSlot) → AllZip SlotBelow slots slots
slots_refl [] = tt
slots_refl (a ∷ slots) = (slot_refl a, slots_refl slots)

slots_trans : (a b c : List StackSlot) → AllZip SlotBelow a b → AllZip SlotBelow b c → AllZip SlotBelow a c
slots_trans [] [] [] h h' = tt
slots_trans [] [] (z ∷ c) h h' = absurd h'
slots_trans [] (y ∷ b) c h h' = absurd h
slots_trans (x ∷ a) [] c h h' = absurd h
slots_trans (x ∷ a) (y ∷ b) [] h h' = absurd h'
slots_trans (x ∷ a) (y ∷ b) (z ∷ c) h h' = (slot_trans x y z h.0 h'.0, slots_trans a b c h.1 h'.1)

pub slots_long : (a b : List StackSlot) → AllZip SlotBelow a b → length a ≡ length b
slots_long [] [] h = refl
slots_long [] (y ∷ b) h = absurd h
slots_long (x ∷ a) [] h = absurd h
slots_long (x ∷ a) (y ∷ b) h = omega (arith, slots_long a b h.1)

slots_grow : (a b : List StackSlot) → length a ≡ length b → AllZip SlotBelow a (joined_slots a b)
slots_grow [] b e = tt
slots_grow (x ∷ a) [] e = absurd (omega arith)
slots_grow (x ∷ a) (y ∷ b) e = (slot_grows x y, slots_grow a b (omega arith))

slots_told : (a b : List StackSlot) → length a ≡ length b → AllZip SlotBelow b (joined_slots a b)
slots_told [] [] e = tt
slots_told [] (y ∷ b) e = absurd (omega arith)
slots_told (x ∷ a) [] e = absurd (omega arith)
slots_told (x ∷ a) (y ∷ b) e = (slot_told x y, slots_told a b (omega arith))

slots_least : (a b c : List StackSlot) → AllZip SlotBelow a c → AllZip SlotBelow b c
    → AllZip SlotBelow (joined_slots a b) c
slots_least [] b c h h' = h
slots_least (x ∷ a) [] [] h h' = absurd h
slots_least (x ∷ a) [] (z ∷ c) h h' = absurd h'
slots_least (x ∷ a) (y ∷ b) [] h h' = absurd h
slots_least (x ∷ a) (y ∷ b) (z ∷ c) h h' = (slot_least x y z h.0 h'.0, slots_least a b c h.1 h'.1)

pub reflexive : (a : Stack) → is_below a a ≡ true
reflexive (Slots slots) = stack_to (Slots slots) (Slots slots) (by_slots slots slots (slots_refl slots))
reflexive Clash = refl

trans_by : (a b c : Stack) → StackBelow a b → StackBelow b c → StackBelow a c
trans_by a _ _ h (to_clash b) = to_clash a
trans_by _ _ _ (by_slots slots others h) (by_slots others' further h') =
    by_slots slots further (slots_trans slots others further h h')

pub transitive : (a b c : Stack) → is_below a b ≡ true → is_below b c ≡ true → is_below a c ≡ true
transitive a b c h h' = stack_to a c (trans_by a b c (stack_from a b h) (stack_from b c h'))

pub joined_grows : (a b : Stack) → is_below a (joined a b) ≡ true
joined_grows (Slots a) (Slots b) = by (length a == length b) refl
  where
    by : (t : Bool) → (length a == length b) ≡ t
        → is_below (Slots a) (cond t (Slots (joined_slots a b)) Clash) ≡ true
    by true e = slots_to a (joined_slots a b) (slots_grow a b (eqb-true (length a) (length b) e))
    by false e = refl
joined_grows (Slots a) Clash = refl
joined_grows Clash b = refl

pub joined_told : (a b : Stack) → is_below b (joined a b) ≡ true
joined_told (Slots a) (Slots b) = by (length a == length b) refl
  where
    by : (t : Bool) → (length a == length b) ≡ t
        → is_below (Slots b) (cond t (Slots (joined_slots a b)) Clash) ≡ true
    by true e = slots_to b (joined_slots a b) (slots_told a b (eqb-true (length a) (length b) e))
    by false e = refl
joined_told (Slots a) Clash = refl
joined_told Clash (Slots b) = refl
joined_told Clash Clash = refl

least_by : (a b c : Stack) → StackBelow a c → StackBelow b c → StackBelow (joined a b) c
least_by _ _ _ (to_clash a) (to_clash b) = to_clash (joined a b)
least_by _ _ _ (by_slots a c h) (by_slots b c' h') = by (length a == length b) same
  where
    same : (length a == length b) ≡ true
    same = eq-eqb (length a) (length b) (slots_long a c h ∙ sym (slots_long b c' h'))

    by : (t : Bool) → t ≡ true → StackBelow (cond t (Slots (joined_slots a b)) Clash) (Slots c)
    by true e = by_slots (joined_slots a b) c (slots_least a b c h h')
    by false e = cc

pub joined_least : (a b c : Stack) → is_below a c ≡ true → is_below b c ≡ true → is_below (joined a b) c ≡ true
joined_least a b c h h' = stack_to (joined a b) c (least_by a b c (stack_from a c h) (stack_from b c h'))

-- stacks that tell the same are one, where their types are in order
slots_same : (a b : List StackSlot) → list_all is_rising_slot a ≡ true → list_all is_rising_slot b ≡ true
    → AllZip SlotBelow a b → AllZip SlotBelow b a → a ≡ b
slots_same [] [] r r' h h' = refl
slots_same [] (y ∷ b) r r' h h' = absurd h
slots_same (x ∷ a) [] r r' h h' = absurd h
slots_same (x ∷ a) (y ∷ b) r r' h h' =
    let parts = and_parts (is_rising_slot x) (list_all is_rising_slot a) r in
    let parts' = and_parts (is_rising_slot y) (list_all is_rising_slot b) r' in
    ap (λ s. s ∷ a) (slot_same x y parts.0 parts'.0 h.0 h'.0)
    ∙ ap (λ l. y ∷ l) (slots_same a b parts.1 parts'.1 h.1 h'.1)

same_by : (a b : Stack) → is_rising_stack a ≡ true → is_rising_stack b ≡ true → StackBelow a b → StackBelow b a → a ≡ b
same_by _ _ r r' (to_clash a) (to_clash b) = refl
same_by _ _ r r' (by_slots a b h) (by_slots b' a' h') = ap (λ l. Slots l) (slots_same a b r r' h h')

pub stack_same : (a b : Stack) → is_rising_stack a ≡ true → is_rising_stack b ≡ true → is_below a b ≡ true
    → is_below b a ≡ true → a ≡ b
stack_same a b r r' h h' = same_by a b r r' (stack_from a b h) (stack_from b a h')

-- ---- what is joined keeps in order

rising_if_same : (t : Bool) (slot : StackSlot) → is_rising_slot slot ≡ true
    → is_rising_slot (cond t slot Conflict) ≡ true
rising_if_same true slot h = h
rising_if_same false slot h = refl

pub rising_joined_slot : (a b : StackSlot) → is_rising_slot b ≡ true → is_rising_slot (joined_slot a b) ≡ true
rising_joined_slot Int32 Int32 h = refl
rising_joined_slot Int64 Int64 h = refl
rising_joined_slot NativeInt NativeInt h = refl
rising_joined_slot (Refs types) (Refs others) h = rising_union types others h
rising_joined_slot (Pointer a) (Pointer b) h = rising_if_same (same_type a b) (Pointer a) refl
rising_joined_slot (Pointer a) (View b) h = rising_if_same (same_type a b) (View a) refl
rising_joined_slot (View a) (Pointer b) h = rising_if_same (same_type a b) (View a) refl
rising_joined_slot (View a) (View b) h = rising_if_same (same_type a b) (View a) refl
rising_joined_slot (Value a) (Value b) h = rising_if_same (same_type a b) (Value a) refl
rising_joined_slot _ _ h = refl

rising_joined_slots : (a b : List StackSlot) → list_all is_rising_slot b ≡ true
    → list_all is_rising_slot (joined_slots a b) ≡ true
rising_joined_slots [] b h = refl
rising_joined_slots (x ∷ a) [] h = refl
rising_joined_slots (x ∷ a) (y ∷ b) h =
    let parts = and_parts (is_rising_slot y) (list_all is_rising_slot b) h in
    and_from (is_rising_slot (joined_slot x y)) (list_all is_rising_slot (joined_slots a b))
    (rising_joined_slot x y parts.0) (rising_joined_slots a b parts.1)

pub rising_joined : (a b : Stack) → is_rising_stack b ≡ true → is_rising_stack (joined a b) ≡ true
rising_joined (Slots a) (Slots b) h = by (length a == length b)
  where
    by : (t : Bool) → is_rising_stack (cond t (Slots (joined_slots a b)) Clash) ≡ true
    by true = rising_joined_slots a b h
    by false = refl
rising_joined (Slots a) Clash h = refl
rising_joined Clash b h = refl
