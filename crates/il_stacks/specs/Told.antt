-- The order of what is known while the work list runs: nothing but what has its types in order tells less than another.
use Rattle.std.specs.Prelude.{◌≡◌, ◌⊎◌, IsTrue}
use Rattle.il_stacks.specs.declared.stack.Stack.{Stack}
use Rattle.il_stacks.specs.Slots.{IsBelow, is_rising_stack}

-- the same, or one in order that tells all that the second does
abbrev pub IsRisingBelow : Stack → Stack → Type 0
IsRisingBelow stack other = (stack ≡ other) ⊎ (IsTrue (is_rising_stack stack) × IsBelow stack other)
