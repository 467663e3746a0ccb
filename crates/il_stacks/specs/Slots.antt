-- What is known of slots and stacks where control comes from several instructions: ECMA-335 III.1.8.1.3, with sets of
-- types where the standard has one type. So where two classes with one interface meet, what is known fits this
-- interface.
use Rattle.std.specs.Prelude.{◌==◌, Bool, true, false, ◌&&◌, if◌then◌else◌, IsTrue, List, [], ◌∷◌, length}
use Rattle.std.specs.List.{list_all}
use Rattle.ty_terms.specs.declared.ty.Ty.{Ty}
use Rattle.il_stacks.specs.declared.slot.StackSlot.{StackSlot}
use Rattle.il_stacks.specs.declared.slot.StackSlot.TheVariants.{Int32, Int64, NativeInt, Refs, Pointer, View, Value}
use Rattle.il_stacks.specs.declared.slot.StackSlot.TheVariants.{Conflict}
use Rattle.il_stacks.specs.declared.stack.Stack.{Stack}
use Rattle.il_stacks.specs.declared.stack.Stack.TheVariants.{Slots, Clash}
use Rattle.il_stacks.specs.Types.{same_type, union, is_subset, are_rising}

-- ---- slots

abbrev pub if_same : Ty → Ty → StackSlot → StackSlot
if_same a b slot = if same_type a b then slot else Conflict

-- what is known where one or the other is: of references either type, of a pointer and a view a view
abbrev pub joined_slot : StackSlot → StackSlot → StackSlot
joined_slot Int32 Int32 = Int32
joined_slot Int64 Int64 = Int64
joined_slot NativeInt NativeInt = NativeInt
joined_slot (Refs types) (Refs others) = Refs (union types others)
joined_slot (Pointer a) (Pointer b) = if_same a b (Pointer a)
joined_slot (Pointer a) (View b) = if_same a b (View a)
joined_slot (View a) (Pointer b) = if_same a b (View a)
joined_slot (View a) (View b) = if_same a b (View a)
joined_slot (Value a) (Value b) = if_same a b (Value a)
joined_slot _ _ = Conflict

-- the first slot tells all that the second does
abbrev pub is_slot_below : StackSlot → StackSlot → Bool
is_slot_below slot Conflict = true
is_slot_below Int32 Int32 = true
is_slot_below Int64 Int64 = true
is_slot_below NativeInt NativeInt = true
is_slot_below (Refs types) (Refs others) = is_subset types others
is_slot_below (Pointer a) (Pointer b) = same_type a b
is_slot_below (Pointer a) (View b) = same_type a b
is_slot_below (View a) (View b) = same_type a b
is_slot_below (Value a) (Value b) = same_type a b
is_slot_below _ _ = false

-- the types of references are listed in rising order, so equal knowledge is one value
abbrev pub is_rising_slot : StackSlot → Bool
is_rising_slot (Refs types) = are_rising types
is_rising_slot _ = true

-- ---- stacks

-- slot by slot, of stacks of one depth
abbrev pub joined_slots : List StackSlot → List StackSlot → List StackSlot
joined_slots [] others = []
joined_slots (a ∷ rest) [] = []
joined_slots (a ∷ rest) (b ∷ others) = joined_slot a b ∷ joined_slots rest others

-- what is known where one stack or the other is
abbrev pub joined : Stack → Stack → Stack
joined (Slots slots) (Slots others) =
    if length slots == length others then Slots (joined_slots slots others) else Clash
joined _ _ = Clash

abbrev pub are_slots_below : List StackSlot → List StackSlot → Bool
are_slots_below [] [] = true
are_slots_below (a ∷ rest) (b ∷ others) = is_slot_below a b && are_slots_below rest others
are_slots_below _ _ = false

-- the first stack tells all that the second does
abbrev pub is_below : Stack → Stack → Bool
is_below stack Clash = true
is_below (Slots slots) (Slots others) = are_slots_below slots others
is_below Clash (Slots others) = false

abbrev pub IsBelow : Stack → Stack → Type 0
IsBelow stack other = IsTrue (is_below stack other)

abbrev pub is_rising_stack : Stack → Bool
is_rising_stack (Slots slots) = list_all is_rising_slot slots
is_rising_stack Clash = true
