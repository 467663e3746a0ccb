-- What is known of the stack at each offset of a method's code: the least that tells what the rows of its operations
-- pass on. ECMA-335 III.1.7.5, III.1.8.1.1.
use Rattle.std.specs.Prelude.{ℕ, ◌==◌, ◌&&◌, Bool, false, List, [], ◌∷◌, ◌++◌, map, find}
use Rattle.std.specs.Prelude.{Option, Some, None}
use Rattle.std.specs.List.{list_any}
use Rattle.std.specs.Option.{option_map, option_map_or}
use Rattle.ty_terms.specs.declared.ty.Ty.{Ty}
use Rattle.il_code.specs.declared.body.Body.{Body}
use Rattle.il_code.specs.declared.body.Clause.{Clause}
use Rattle.il_code.specs.declared.body.ClauseKind.{ClauseKind}
use Rattle.il_code.specs.declared.body.ClauseKind.TheVariants.{Catch, Filter, Finally, Fault}
use Rattle.il_code.specs.declared.body.Instr.{Instr}
use Rattle.il_code.specs.Listing.{targets_in}
use Rattle.il_code.specs.Marks.{known_from}
use Rattle.il_code.specs.Reach.{next_of, end_of}
use Rattle.il_stacks.specs.declared.effect.Effect.{Effect}
use Rattle.il_stacks.specs.declared.effect.Effect.TheVariants.{Empties, Takes, Unknown}
use Rattle.il_stacks.specs.declared.effect.Handler.{Handler}
use Rattle.il_stacks.specs.declared.effect.Step.{Step}
use Rattle.il_stacks.specs.declared.slot.StackSlot.{StackSlot}
use Rattle.il_stacks.specs.declared.slot.StackSlot.TheVariants.{Refs, Conflict}
use Rattle.il_stacks.specs.declared.stack.Stack.{Stack}
use Rattle.il_stacks.specs.Flow.{AreLeastStacks as AreLeastOf}
use Rattle.il_stacks.specs.Rounds.{stacks_by_rounds}
use Rattle.il_verify.specs.Actions.{Constrained, Readonly, Leave, Action, AtPlaces}
use Rattle.il_verify.specs.Actions.{OnExceptions, action_of}
use Rattle.il_verify.specs.CallRows.{Prefix, Unprefixed, ConstrainedTo, ReadonlyAddress}
use Rattle.il_verify.specs.Kinds.{is_reference}
use Rattle.il_verify.specs.Row.{Row}
use Rattle.il_verify.specs.Rows.{row_of}
use Rattle.il_verify.specs.Scope.{Scope, type_token}

abbrev pub action_at : Instr → Action
action_at i = action_of i.op i.operand

-- ---- which offsets are reached: III.1.7.2, I.12.4.2.1

abbrev pub is_among : List ℕ → ℕ → Bool
is_among offsets offset = list_any (λ other. other == offset) offsets

-- an instruction that does this to the stack, and a clause's handler that begins with what was caught
abbrev pub step_with : Instr → Effect → Step
step_with i effect = record { at = i.at; ways = next_of i ++ targets_in i.operand; effect = effect }

abbrev pub handler_with : Clause → Option StackSlot → Handler
handler_with clause caught =
    record { try_at = clause.try_at; try_end = clause.try_end; at = clause.handler_at; caught = caught }

-- an instruction and a clause, as far as only the ways of control go
abbrev pub bare_step : Instr → Step
bare_step i = step_with i Unknown

abbrev pub bare_handler : Clause → Handler
bare_handler clause = handler_with clause None

-- that control comes to an offset, whatever is known there
abbrev pub comes : Option Stack → Option (Unit {0})
comes row = option_map (λ stack. tt) row

-- the offsets that control comes to from the begin
abbrev pub reached_offsets : Body → List ℕ
reached_offsets body =
    known_from 0 (map comes (stacks_by_rounds (λ ty. false) (map bare_step body.code) (map bare_handler body.clauses)
    (end_of body.code)))

-- ---- prefixes

abbrev pub prefix_of : Scope → Action → Prefix
prefix_of scope (AtPlaces (Constrained token)) = ConstrainedTo (type_token scope token)
prefix_of scope (AtPlaces Readonly) = ReadonlyAddress
prefix_of scope _ = Unprefixed

-- the prefix of an instruction: a reached one right in front of it
abbrev pub prefix_at : Scope → Body → List ℕ → ℕ → Prefix
prefix_at scope body offsets at =
    option_map_or (λ i. prefix_of scope (action_at i))
    (find (λ i. i.next == at && is_among offsets i.at) body.code) Unprefixed

abbrev pub row_at : Scope → Body → List ℕ → Instr → Option Row
row_at scope body offsets i = row_of scope (prefix_at scope body offsets i.at) (action_at i)

-- ---- what operations do to the stack

abbrev pub effect_of_row : Option Row → Effect
effect_of_row (Some row) = Takes row.takes row.gives
effect_of_row None = Unknown

-- `leave` empties the stack (III.3.46)
abbrev pub effect_of : Action → Option Row → Effect
effect_of (OnExceptions (Leave target)) row = Empties
effect_of _ row = effect_of_row row

abbrev pub step_of : Scope → Body → List ℕ → Instr → Step
step_of scope body offsets i = step_with i (effect_of (action_at i) (row_at scope body offsets i))

abbrev pub steps_of : Scope → Body → List Step
steps_of scope body = map (step_of scope body (reached_offsets body)) body.code

-- ---- handlers

-- What is on the stack where a handler begins: in a catch a reference of its class (I.12.4.2.5).
abbrev pub caught_slot : Option Ty → StackSlot
caught_slot (Some ty) = Refs (ty ∷ [])
caught_slot None = Conflict

abbrev pub caught_by : Scope → Clause → ClauseKind → Option StackSlot
caught_by scope clause Catch = Some (caught_slot (type_token scope clause.class))
caught_by scope clause Filter = Some Conflict
caught_by scope clause Finally = None
caught_by scope clause Fault = None

abbrev pub handler_of : Scope → Clause → Handler
handler_of scope clause = handler_with clause (caught_by scope clause clause.kind)

abbrev pub handlers_of_body : Scope → Body → List Handler
handlers_of_body scope body = map (handler_of scope) body.clauses

-- ---- the least solution

-- A table with what is known of the stack at each offset, and nothing where control doesn't come: the least stacks.
-- There is one such table.
abbrev pub AreLeastStacks : Scope → Body → List (Option Stack) → Type 0
AreLeastStacks scope body table =
    AreLeastOf (is_reference scope.world) (steps_of scope body) (handlers_of_body scope body) (end_of body.code) table
