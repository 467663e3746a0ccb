-- Which methods are verified, and what is known of the stacks of one that is: ECMA-335 III.1.8. The least stacks are
-- defined by what they tell, and computed by rounds.
use Rattle.std.specs.Prelude.{◌≡◌, ℕ, Bool, false, List, find, Contains, Option, Some, None, Result, Ok, Err}
use Rattle.std.specs.Option.{option_map, option_map_or}
use Rattle.ty_terms.specs.declared.names.MethodName.{MethodName}
use Rattle.il_code.specs.declared.body.Body.{Body}
use Rattle.il_code.specs.declared.body.Instr.{Instr}
use Rattle.il_code.specs.Reach.{end_of}
use Rattle.least_flow.specs.Solution.{row}
use Rattle.ty_names.specs.Modules.{World}
use Rattle.il_stacks.specs.declared.stack.Stack.{Stack}
pub use Rattle.il_stacks.specs.declared.typing.Typing.{Typing}
use Rattle.il_stacks.specs.Rounds.{stacks_by_rounds}
use Rattle.il_stacks.specs.Typings.{typing_of}
use Rattle.il_verify.specs.Flow.{AreLeastStacks, handlers_of_body, reached_offsets, steps_of}
use Rattle.il_verify.specs.Kinds.{is_reference}
use Rattle.il_verify.specs.Rules.{fails}
use Rattle.il_verify.specs.Scope.{Scope, scope_of}

-- ---- by what they tell

-- no instruction before which a stack is known fails
abbrev pub NoneFails : Scope → Body → List (Option Stack) → Type 0
NoneFails scope body table =
    (i : Instr) (stack : Stack) → Contains body.code i → row table i.at ≡ Some stack
    → fails scope body (reached_offsets body) i stack ≡ false

-- A method is verified by its body where its signature and locals resolve, and nothing fails in the least stacks.
pub record IsVerified (world : World) (name : MethodName) (body : Body) : Type 0 where
  pub scope : Scope
  pub stands : scope_of world name body ≡ Some scope
  pub table : List (Option Stack)
  pub least : AreLeastStacks scope body table
  pub none : NoneFails scope body table

-- ---- by rounds

-- the least stacks
unfoldable pub least_stacks : Scope → Body → List (Option Stack)
least_stacks scope body =
    stacks_by_rounds (is_reference scope.world) (steps_of scope body) (handlers_of_body scope body) (end_of body.code)

abbrev pub fails_at : Scope → Body → List ℕ → Instr → Option Stack → Bool
fails_at scope body offsets i None = false
fails_at scope body offsets i (Some stack) = fails scope body offsets i stack

-- the offset of the first instruction that fails in a table
abbrev pub first_failing : Scope → Body → List ℕ → List (Option Stack) → Option ℕ
first_failing scope body offsets table =
    option_map (λ i. i.at) (find (λ i. fails_at scope body offsets i (row table i.at)) body.code)

-- ---- what verifying tells

abbrev pub typed_or : Typing → Option ℕ → Result Typing ℕ
typed_or typing (Some offset) = Err offset
typed_or typing None = Ok typing

abbrev pub verified_in : Scope → Body → Result Typing ℕ
verified_in scope body =
    let table : List (Option Stack) = least_stacks scope body in
    typed_or (typing_of table (steps_of scope body)) (first_failing scope body (reached_offsets body) table)

-- The typing of a method by its body, or the least offset that fails. One whose signature or locals don't resolve is
-- no method that programs have, and fails at 0.
unfoldable pub verification : World → MethodName → Body → Result Typing ℕ
verification world name body = option_map_or (λ scope. verified_in scope body) (scope_of world name body) (Err 0)

-- there is a typing
abbrev pub HasTyping : World → MethodName → Body → Type 0
HasTyping world name body = (typing : Typing) × (verification world name body ≡ Ok typing)
