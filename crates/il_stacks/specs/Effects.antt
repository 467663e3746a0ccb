-- What operations leave on the stack for what they take of it: ECMA-335 III.1.8, the diagrams of transitions of III.3
-- and III.4.
use Rattle.std.specs.Prelude.{ℕ, ◌-◌, nat_lt, Bool, true, false, if◌then◌else◌, List, [], ◌∷◌, ◌++◌, length, take, drop}
use Rattle.std.specs.List.{list_all}
use Rattle.std.specs.Option.{option_map_or}
use Rattle.ty_terms.specs.declared.ty.Ty.{Ty}
use Rattle.il_stacks.specs.declared.effect.Effect.{Effect}
use Rattle.il_stacks.specs.declared.effect.Effect.TheVariants.{Empties, Takes, Unknown}
use Rattle.il_stacks.specs.declared.effect.Results.{Results}
use Rattle.il_stacks.specs.declared.effect.Results.TheVariants.{Nothing, Always, Twice, SameNumber, AgreedNumber}
use Rattle.il_stacks.specs.declared.effect.Results.TheVariants.{FirstNumber, ReferenceBehind, Element}
use Rattle.il_stacks.specs.declared.slot.StackSlot.{StackSlot}
use Rattle.il_stacks.specs.declared.slot.StackSlot.TheVariants.{Int32, Int64, NativeInt, Refs, Pointer, View}
use Rattle.il_stacks.specs.declared.slot.StackSlot.TheVariants.{Conflict}
use Rattle.il_stacks.specs.declared.stack.Stack.{Stack}
use Rattle.il_stacks.specs.declared.stack.Stack.TheVariants.{Slots, Clash}
use Rattle.il_stacks.specs.Types.{element_of, elements_of}

-- ---- results of operands

-- the kind of a number
abbrev pub number_of : StackSlot → StackSlot
number_of Int32 = Int32
number_of Int64 = Int64
number_of NativeInt = NativeInt
number_of _ = Conflict

-- what two numbers give: those of one kind a number of that kind, an int32 with a native int a native int (III.1.5)
abbrev pub agreed : StackSlot → StackSlot → StackSlot
agreed Int32 Int32 = Int32
agreed Int64 Int64 = Int64
agreed NativeInt NativeInt = NativeInt
agreed Int32 NativeInt = NativeInt
agreed NativeInt Int32 = NativeInt
agreed _ _ = Conflict

abbrev pub if_object : (Ty → Bool) → Ty → StackSlot
if_object objects ty = if objects ty then Refs (ty ∷ []) else Conflict

-- the reference that stands behind a pointer or a view; `objects` tells which types are those of references
abbrev pub reference_behind : (Ty → Bool) → StackSlot → StackSlot
reference_behind objects (Pointer ty) = if_object objects ty
reference_behind objects (View ty) = if_object objects ty
reference_behind objects _ = Conflict

abbrev pub has_objects : (Ty → Bool) → Ty → Bool
has_objects objects ty = option_map_or objects (element_of ty) false

-- A reference that an element of such vectors is: to one of the types of their elements, if these are references.
abbrev pub element_slot : (Ty → Bool) → StackSlot → StackSlot
element_slot objects (Refs types) = if list_all (has_objects objects) types then Refs (elements_of types) else Conflict
element_slot objects _ = Conflict

-- ---- results

abbrev pub twice : List StackSlot → List StackSlot
twice (slot ∷ []) = slot ∷ slot ∷ []
twice operands = operands

abbrev pub of_one : (StackSlot → StackSlot) → List StackSlot → List StackSlot
of_one result (slot ∷ []) = result slot ∷ []
of_one result _ = Conflict ∷ []

abbrev pub of_two : (StackSlot → StackSlot → StackSlot) → List StackSlot → List StackSlot
of_two result (a ∷ (b ∷ [])) = result a b ∷ []
of_two result _ = Conflict ∷ []

-- of the first of two
abbrev pub of_first : (StackSlot → StackSlot) → List StackSlot → List StackSlot
of_first result operands = of_two (λ a b. result a) operands

-- what stands in place of operands, of which the one pushed first comes first
abbrev pub given : (Ty → Bool) → Results → List StackSlot → List StackSlot
given objects Nothing operands = []
given objects (Always slot) operands = slot ∷ []
given objects Twice operands = twice operands
given objects SameNumber operands = of_one number_of operands
given objects AgreedNumber operands = of_two agreed operands
given objects FirstNumber operands = of_first number_of operands
given objects ReferenceBehind operands = of_one (reference_behind objects) operands
given objects Element operands = of_first (element_slot objects) operands

-- ---- the stack behind an operation

abbrev pub has_operands : ℕ → List StackSlot → Bool
has_operands count slots = if nat_lt (length slots) count then false else true

-- so many slots at the top, in the order in which they were pushed, and what is below
abbrev pub operands : ℕ → List StackSlot → List StackSlot
operands count slots = drop (length slots - count) slots

abbrev pub below : ℕ → List StackSlot → List StackSlot
below count slots = take (length slots - count) slots

-- the stack behind an operation; one that is too short is a clash
abbrev pub behind : (Ty → Bool) → Effect → Stack → Stack
behind objects effect Clash = Clash
behind objects Empties (Slots slots) = Slots []
behind objects (Takes count results) (Slots slots) =
    if has_operands count slots
    then Slots (below count slots ++ given objects results (operands count slots))
    else Clash
behind objects Unknown (Slots slots) = Clash
