-- How often what is known of a stack can be raised: by the types that can be met, and the depth of the stack.
use Rattle.std.specs.Prelude.{ℕ, ◌+◌, ◌*◌, ◌≤◌, Bool, ◌&&◌, if◌then◌else◌, IsTrue, List, [], ◌∷◌, ◌++◌}
use Rattle.std.specs.Prelude.{length}
use Rattle.std.specs.List.{list_all, flat_map}
use Rattle.std.specs.Option.{option_map_or}
use Rattle.ty_terms.specs.declared.ty.Ty.{Ty}
use Rattle.il_stacks.specs.declared.effect.Effect.{Effect}
use Rattle.il_stacks.specs.declared.effect.Effect.TheVariants.{Empties, Takes, Unknown}
use Rattle.il_stacks.specs.declared.effect.Handler.{Handler}
use Rattle.il_stacks.specs.declared.effect.Results.{Results}
use Rattle.il_stacks.specs.declared.effect.Results.TheVariants.{Nothing, Always, Twice, SameNumber, AgreedNumber}
use Rattle.il_stacks.specs.declared.effect.Results.TheVariants.{FirstNumber, ReferenceBehind, Element}
use Rattle.il_stacks.specs.declared.effect.Step.{Step}
use Rattle.il_stacks.specs.declared.slot.StackSlot.{StackSlot}
use Rattle.il_stacks.specs.declared.slot.StackSlot.TheVariants.{Int32, Int64, NativeInt, Refs, Pointer, View, Value}
use Rattle.il_stacks.specs.declared.slot.StackSlot.TheVariants.{Conflict}
use Rattle.il_stacks.specs.declared.stack.Stack.{Stack}
use Rattle.il_stacks.specs.declared.stack.Stack.TheVariants.{Slots, Clash}
use Rattle.il_stacks.specs.Types.{has_type, is_subset, nested}
use Rattle.il_stacks.specs.Slots.{is_rising_slot}

-- ---- types that can be met

-- the types of a slot's references, or that of the place to which it points
abbrev pub types_of_slot : StackSlot → List Ty
types_of_slot Int32 = []
types_of_slot Int64 = []
types_of_slot NativeInt = []
types_of_slot (Refs types) = types
types_of_slot (Pointer ty) = ty ∷ []
types_of_slot (View ty) = ty ∷ []
types_of_slot (Value ty) = []
types_of_slot Conflict = []

-- the slots that results have whatever the operands are
abbrev pub slots_of_results : Results → List StackSlot
slots_of_results Nothing = []
slots_of_results (Always slot) = slot ∷ []
slots_of_results Twice = []
slots_of_results SameNumber = []
slots_of_results AgreedNumber = []
slots_of_results FirstNumber = []
slots_of_results ReferenceBehind = []
slots_of_results Element = []

abbrev pub slots_of_effect : Effect → List StackSlot
slots_of_effect Empties = []
slots_of_effect (Takes count results) = slots_of_results results
slots_of_effect Unknown = []

abbrev pub slots_of_step : Step → List StackSlot
slots_of_step step = slots_of_effect step.effect

abbrev pub slots_of_handler : Handler → List StackSlot
slots_of_handler handler = option_map_or (λ slot. slot ∷ []) handler.caught []

-- all slots that stand on a stack by an operation or a handler alone
abbrev pub first_slots : List Step → List Handler → List StackSlot
first_slots steps handlers = flat_map slots_of_step steps ++ flat_map slots_of_handler handlers

-- All types that can be met in a slot: those of first slots, and what is inside them.
abbrev pub types_met : List Step → List Handler → List Ty
types_met steps handlers = flat_map nested (flat_map types_of_slot (first_slots steps handlers))

-- the types of first slots are listed in rising order
abbrev pub are_sound : List Step → List Handler → Bool
are_sound steps handlers = list_all is_rising_slot (first_slots steps handlers)

-- ---- depths and ranks

-- a slot's types are in order, and among those that can be met
abbrev pub is_slot_within : List Ty → StackSlot → Bool
is_slot_within met slot = is_rising_slot slot && is_subset (types_of_slot slot) met

-- a stack that control can come to over so many offsets: each operation adds one slot at most
abbrev pub IsWithin : List Ty → ℕ → Stack → Type 0
IsWithin met depth (Slots slots) = (length slots ≤ depth) × IsTrue (list_all (is_slot_within met) slots)
IsWithin met depth Clash = Unit {0}

-- how many of the types that can be met are among these
abbrev pub how_many : List Ty → List Ty → ℕ
how_many [] types = 0
how_many (ty ∷ met) types = (if has_type types ty then 1 else 0) + how_many met types

abbrev pub slot_rank : List Ty → StackSlot → ℕ
slot_rank met Int32 = 0
slot_rank met Int64 = 0
slot_rank met NativeInt = 0
slot_rank met (Refs types) = how_many met types
slot_rank met (Pointer ty) = 0
slot_rank met (View ty) = 1
slot_rank met (Value ty) = 0
slot_rank met Conflict = 2 + length met

abbrev pub slots_rank : List Ty → List StackSlot → ℕ
slots_rank met [] = 0
slots_rank met (slot ∷ slots) = slot_rank met slot + slots_rank met slots

-- how often a stack of at most this depth can have been raised
abbrev pub stack_rank : List Ty → ℕ → Stack → ℕ
stack_rank met depth (Slots slots) = slots_rank met slots
stack_rank met depth Clash = 1 + depth * (2 + length met)
