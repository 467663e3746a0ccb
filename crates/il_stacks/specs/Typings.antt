-- What verifying tells of a method's code: the stack before each offset that control comes to, and the value types in
-- these stacks.
use Rattle.std.specs.Prelude.{ℕ, if◌then◌else◌, List, [], ◌∷◌, ◌++◌, fold, Option, Some, None}
use Rattle.std.specs.List.{flat_map}
use Rattle.ty_terms.specs.declared.ty.Ty.{Ty}
use Rattle.least_flow.specs.Solution.{row}
use Rattle.il_stacks.specs.declared.effect.Step.{Step}
use Rattle.il_stacks.specs.declared.slot.StackSlot.{StackSlot}
use Rattle.il_stacks.specs.declared.slot.StackSlot.TheVariants.{Int32, Int64, NativeInt, Refs, Pointer, View, Value}
use Rattle.il_stacks.specs.declared.slot.StackSlot.TheVariants.{Conflict}
use Rattle.il_stacks.specs.declared.stack.Stack.{Stack}
use Rattle.il_stacks.specs.declared.stack.Stack.TheVariants.{Slots, Clash}
use Rattle.il_stacks.specs.declared.typing.OffsetStack.{OffsetStack}
use Rattle.il_stacks.specs.declared.typing.Typing.{Typing}
use Rattle.il_stacks.specs.Types.{has_type}

abbrev pub entry_at : ℕ → Option Stack → List OffsetStack
entry_at offset None = []
entry_at offset (Some stack) = record { offset = offset; stack = stack } ∷ []

-- each step before which a stack is known, with it
abbrev pub stacks_in : List (Option Stack) → List Step → List OffsetStack
stacks_in table [] = []
stacks_in table (step ∷ steps) = entry_at step.at (row table step.at) ++ stacks_in table steps

abbrev pub values_of_slot : StackSlot → List Ty
values_of_slot Int32 = []
values_of_slot Int64 = []
values_of_slot NativeInt = []
values_of_slot (Refs types) = []
values_of_slot (Pointer ty) = []
values_of_slot (View ty) = []
values_of_slot (Value ty) = ty ∷ []
values_of_slot Conflict = []

abbrev pub values_of_stack : Stack → List Ty
values_of_stack (Slots slots) = flat_map values_of_slot slots
values_of_stack Clash = []

abbrev pub added : List Ty → Ty → List Ty
added types ty = if has_type types ty then types else types ++ (ty ∷ [])

abbrev pub values_in : List OffsetStack → List Ty
values_in stacks = fold added [] (flat_map (λ entry. values_of_stack entry.stack) stacks)

-- Each reached offset with its stack, in the order of steps, and the value types in these stacks, each once, in order
-- of offsets and of one stack from the bottom.
abbrev pub typing_of : List (Option Stack) → List Step → Typing
typing_of table steps = record { stacks = stacks_in table steps; values = values_in (stacks_in table steps) }
