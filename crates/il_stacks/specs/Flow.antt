-- What is known of the stack at each offset of code: the least that tells what the operations pass on. ECMA-335
-- III.1.7.5, III.1.8.1.1.
use Rattle.std.specs.Prelude.{◌≡◌, ℕ, ◌+◌, ◌<◌, ◌&&◌, slice_index_or, nat_le, nat_lt, Bool, true, List, [], ◌∷◌}
use Rattle.std.specs.Prelude.{◌++◌, map, filter, length, Contains, Option, Some, None, IsTrue}
use Rattle.ty_terms.specs.declared.ty.Ty.{Ty}
use Rattle.least_flow.specs.Solution.{IsLeast, row}
use Rattle.least_flow.specs.Telling.{IfKnown}
use Rattle.il_stacks.specs.declared.effect.Handler.{Handler}
use Rattle.il_stacks.specs.declared.effect.Step.{Step}
use Rattle.il_stacks.specs.declared.slot.StackSlot.{StackSlot}
use Rattle.il_stacks.specs.declared.stack.Stack.{Stack}
use Rattle.il_stacks.specs.declared.stack.Stack.TheVariants.{Slots}
use Rattle.il_stacks.specs.Effects.{behind}
use Rattle.il_stacks.specs.Slots.{IsBelow, is_rising_stack}

-- the steps stand from an offset on, each at a higher offset than those in front of it
abbrev pub steps_rise : ℕ → List Step → Bool
steps_rise low [] = true
steps_rise low (step ∷ steps) = nat_le low step.at && steps_rise (step.at + 1) steps

-- the same of any two
abbrev pub AreRising : List Step → Type 0
AreRising steps =
    (i j : ℕ) (d : Step) → i < j → j < length steps → (slice_index_or steps i d).at < (slice_index_or steps j d).at

-- the try range of a handler holds an offset
abbrev pub tries : ℕ → Handler → Bool
tries offset handler = nat_le handler.try_at offset && nat_lt offset handler.try_end

-- a handler begins with what it caught, or with nothing (I.12.4.2.5)
abbrev pub entry_slots : Option StackSlot → List StackSlot
entry_slots None = []
entry_slots (Some caught) = caught ∷ []

abbrev pub entry : Handler → ℕ × Stack
entry handler = (handler.at, Slots (entry_slots handler.caught))

-- all that is passed on from an instruction before which a stack is known, and to which offsets
abbrev pub passed : (Ty → Bool) → List Handler → Step → Stack → List (ℕ × Stack)
passed objects handlers step stack =
    map (λ to. (to, behind objects step.effect stack)) step.ways ++ map entry (filter (tries step.at) handlers)

-- the code begins with an empty stack
abbrev pub Starts : ℕ → Stack → Type 0
Starts place stack = (place ≡ 0) × (stack ≡ Slots [])

abbrev pub Passes : (Ty → Bool) → List Step → List Handler → ℕ → Stack → ℕ → Stack → Type 0
Passes objects steps handlers place stack to fact =
    (step : Step) × Contains steps step × (step.at ≡ place)
    × Contains (passed objects handlers step stack) (to, fact)

-- A table with what is known of the stack at each of so many offsets, and nothing where control doesn't come: the least
-- stacks, whose sets of types are listed in rising order, so that there is no other such table.
pub record AreLeastStacks (objects : Ty → Bool) (steps : List Step) (handlers : List Handler) (size : ℕ)
    (table : List (Option Stack)) : Type 0 where
  pub long : length table ≡ size
  pub least : IsLeast IsBelow Starts (Passes objects steps handlers) table
  pub rising : (place : ℕ) → IfKnown (λ stack. IsTrue (is_rising_stack stack)) (row table place)
