-- What one operation takes from the stack, whether that is what it wants, and what it gives in its place. Operands and
-- results stand as in the standard's diagrams of transitions (ECMA-335 III.1.2): the one pushed first comes first.
use Rattle.std.specs.Prelude.{ℕ, Bool, true, false, ◌&&◌, List, [], ◌∷◌, length}
use Rattle.il_stacks.specs.declared.effect.Results.{Results}
use Rattle.il_stacks.specs.declared.effect.Results.TheVariants.{Always}
use Rattle.il_stacks.specs.declared.slot.StackSlot.{StackSlot}
use Rattle.il_stacks.specs.declared.slot.StackSlot.TheVariants.{Int32, Int64, NativeInt, Refs, Conflict}

-- How many slots an operation takes; whether its token, if it has one, leads to an item of the kind that it wants;
-- whether operands are what it wants; and what it gives for operands. A result that depends on an operand is Conflict
-- where that isn't what is wanted.
pub record Row : Type 0 where
  pub takes : ℕ
  pub names : Bool
  pub suits : List StackSlot → Bool
  pub gives : Results

-- ---- what an operand can be

abbrev pub Test : Type 0
Test = StackSlot → Bool

abbrev pub is_any : Test
is_any slot = true

abbrev pub is_number : Test
is_number Int32 = true
is_number Int64 = true
is_number NativeInt = true
is_number _ = false

abbrev pub is_int32 : Test
is_int32 Int32 = true
is_int32 _ = false

-- an amount, an index, a length
abbrev pub is_index : Test
is_index Int32 = true
is_index NativeInt = true
is_index _ = false

abbrev pub is_object : Test
is_object (Refs types) = true
is_object _ = false

abbrev pub is_usable : Test
is_usable Conflict = false
is_usable _ = true

-- ---- forms of rows

abbrev pub all_pass : List Test → List StackSlot → Bool
all_pass [] [] = true
all_pass (test ∷ tests) (slot ∷ slots) = test slot && all_pass tests slots
all_pass _ _ = false

-- operands that each pass a test
abbrev pub taking : List Test → Results → Row
taking tests results = record { takes = length tests; names = true; suits = all_pass tests; gives = results }

-- no operands, and a result
abbrev pub giving : StackSlot → Row
giving slot = taking [] (Always slot)

-- two operands that hang together
abbrev pub both : (StackSlot → StackSlot → Bool) → List StackSlot → Bool
both test (a ∷ (b ∷ [])) = test a b
both test _ = false

abbrev pub taking_both : (StackSlot → StackSlot → Bool) → Results → Row
taking_both test results = record { takes = 2; names = true; suits = both test; gives = results }

-- operands of which no such ones are what is wanted
abbrev pub never : ℕ → Results → Row
never count results = record { takes = count; names = true; suits = λ operands. false; gives = results }

-- a token that leads to an item of another kind
abbrev pub misnamed : ℕ → Results → Row
misnamed count results = record { takes = count; names = false; suits = λ operands. true; gives = results }
