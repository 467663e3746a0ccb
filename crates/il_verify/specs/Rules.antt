-- What fails: the rules that an instruction can break, each by its name. ECMA-335 III.1.7, III.1.8, III.2, III.3.
use Rattle.std.specs.Prelude.{ℕ, ◌==◌, ◌&&◌, ◌||◌, nat_lt, Bool, true, false, not, if◌then◌else◌, List, [], ◌∷◌}
use Rattle.std.specs.Prelude.{length, find, ◌++◌, Option}
use Rattle.std.specs.List.{list_any, list_all}
use Rattle.std.specs.Option.{option_map_or}
use Rattle.il_code.specs.declared.body.Body.{Body}
use Rattle.il_code.specs.declared.body.Clause.{Clause}
use Rattle.il_code.specs.declared.body.Instr.{Instr}
use Rattle.il_code.specs.Listing.{targets_in}
use Rattle.il_code.specs.Reach.{next_of}
use Rattle.il_verify.specs.Actions.{Constrained, Readonly, AddressOfElement}
use Rattle.il_verify.specs.Actions.{CallVirtual, Return, Rethrow, EndFinally, Leave, Action, AtPlaces}
use Rattle.il_verify.specs.Actions.{OnVectors, ByCalls, OnExceptions}
use Rattle.il_verify.specs.Flow.{action_at, row_at, is_among}
use Rattle.il_stacks.specs.Effects.{has_operands, operands}
use Rattle.il_verify.specs.Ranges.{may_go, may_leave, begins_range, is_in_handler, is_in_catch, is_in_range}
use Rattle.il_verify.specs.Ranges.{ends_finally}
use Rattle.il_verify.specs.Row.{Row, is_usable}
use Rattle.il_verify.specs.Scope.{Scope}
use Rattle.il_stacks.specs.declared.slot.StackSlot.{StackSlot}
use Rattle.il_stacks.specs.declared.stack.Stack.{Stack}
use Rattle.il_stacks.specs.declared.stack.Stack.TheVariants.{Slots, Clash}

pub data Rule : Type 0 where
  -- stacks of different depths meet here, or one was too short before
  MeetsAtOneDepth : Rule
  -- all that is on the stack can be used
  HasNoConflict : Rule
  -- the stack is no deeper than the body says
  IsWithinMaxStack : Rule
  -- the token leads to an item of the operation's kind: of a static field or an instance one, of a method or a `.ctor`
  NamesItsKind : Rule
  -- the operands are there, and are what the operation takes
  HasItsOperands : Rule
  -- control comes into and out of the ranges of clauses by their ways alone
  GoesItsWays : Rule
  -- the code doesn't begin in a handler
  BeginsOutsideHandlers : Rule
  LeavesWell : Rule
  -- `endfinally` ends a finally or a fault handler, in which it stands innermost
  EndsItsHandler : Rule
  RethrowsWhatWasCaught : Rule
  -- `ret` stands in no range of a clause
  ReturnsOutsideClauses : Rule
  -- `ret` leaves nothing on the stack
  ReturnsItsResultAlone : Rule
  -- behind `constrained.` stands `callvirt`, and behind `readonly.` `ldelema`, and control comes to neither elsewise
  PrefixesItsInstruction : Rule

abbrev pub rules : List Rule
rules =
    MeetsAtOneDepth ∷ HasNoConflict ∷ IsWithinMaxStack ∷ NamesItsKind ∷ HasItsOperands ∷ GoesItsWays
    ∷ BeginsOutsideHandlers ∷ LeavesWell ∷ EndsItsHandler ∷ RethrowsWhatWasCaught ∷ ReturnsOutsideClauses
    ∷ ReturnsItsResultAlone ∷ PrefixesItsInstruction ∷ []

-- ---- stacks

abbrev pub on_slots : Bool → (List StackSlot → Bool) → Stack → Bool
on_slots clash test (Slots slots) = test slots
on_slots clash test Clash = clash

-- a stack at one depth, with nothing that can't be used, and no deeper than the body says
abbrev pub is_at_one_depth : Stack → Bool
is_at_one_depth stack = on_slots false (λ slots. true) stack

abbrev pub has_no_conflict : Stack → Bool
has_no_conflict stack = on_slots true (list_all is_usable) stack

abbrev pub is_within_depth : ℕ → Stack → Bool
is_within_depth most stack = on_slots true (λ slots. not (nat_lt most (length slots))) stack

abbrev pub has_kind_of_item : Option Row → Bool
has_kind_of_item row = option_map_or (λ found. found.names) row false

abbrev pub suits_row : List StackSlot → Row → Bool
suits_row slots row = has_operands row.takes slots && row.suits (operands row.takes slots)

-- ---- what stands where

abbrev pub is_leave : Action → Bool
is_leave (OnExceptions (Leave target)) = true
is_leave _ = false

abbrev pub is_return : Action → Bool
is_return (ByCalls Return) = true
is_return _ = false

abbrev pub is_rethrow : Action → Bool
is_rethrow (OnExceptions Rethrow) = true
is_rethrow _ = false

abbrev pub is_end : Action → Bool
is_end (OnExceptions EndFinally) = true
is_end _ = false

abbrev pub is_constrained_prefix : Action → Bool
is_constrained_prefix (AtPlaces (Constrained token)) = true
is_constrained_prefix _ = false

abbrev pub is_readonly_prefix : Action → Bool
is_readonly_prefix (AtPlaces Readonly) = true
is_readonly_prefix _ = false

abbrev pub is_prefix : Action → Bool
is_prefix action = is_constrained_prefix action || is_readonly_prefix action

abbrev pub is_virtual_call : Action → Bool
is_virtual_call (ByCalls (CallVirtual method)) = true
is_virtual_call _ = false

abbrev pub is_address_of_element : Action → Bool
is_address_of_element (OnVectors (AddressOfElement element)) = true
is_address_of_element _ = false

-- the operation that a prefix must stand in front of; what is no prefix asks for none
abbrev pub is_prefix_for : Action → Action → Bool
is_prefix_for action next =
    if is_constrained_prefix action then is_virtual_call next
    else if is_readonly_prefix action then is_address_of_element next
    else true

-- an instruction, reached or not, leads to the offset
abbrev pub is_target : List Instr → ℕ → Bool
is_target code offset = list_any (λ i. is_among (targets_in i.operand) offset) code

abbrev pub is_entered : List Instr → List Clause → ℕ → Bool
is_entered code clauses offset = is_target code offset || begins_range clauses offset

-- the instruction behind one
abbrev pub next_in : List Instr → Instr → Option Instr
next_in code i = find (λ next. next.at == i.next) code

abbrev pub fits_next : List Instr → Instr → Bool
fits_next code i =
    option_map_or (λ next. is_prefix_for (action_at i) (action_at next)) (next_in code i)
    (not (is_prefix (action_at i)))

-- a prefix stands in front of its operation, to which control comes by no other way
abbrev pub prefixes_well : List Instr → List Clause → Instr → Bool
prefixes_well code clauses i =
    fits_next code i
    && (not (is_prefix (action_at i)) || not (is_entered code clauses i.next))

abbrev pub ways_of : Instr → List ℕ
ways_of i = next_of i ++ targets_in i.operand

-- ---- rules on the ranges of clauses

-- control goes on by the ways of ranges, or by `leave`
abbrev pub goes_its_ways : List Clause → Instr → Bool
goes_its_ways clauses i = is_leave (action_at i) || list_all (may_go clauses i.at) (ways_of i)

abbrev pub begins_outside : List Clause → Instr → Bool
begins_outside clauses i = not (i.at == 0) || not (is_in_handler clauses 0)

abbrev pub leaves_its_ranges : List Clause → Instr → Bool
leaves_its_ranges clauses i =
    not (is_leave (action_at i)) || list_all (may_leave clauses i.at) (targets_in i.operand)

abbrev pub ends_its_handler : List Clause → Instr → Bool
ends_its_handler clauses i = not (is_end (action_at i)) || ends_finally clauses i.at

abbrev pub rethrows_in_catch : List Clause → Instr → Bool
rethrows_in_catch clauses i = not (is_rethrow (action_at i)) || is_in_catch clauses i.at

abbrev pub returns_outside : List Clause → Instr → Bool
returns_outside clauses i = not (is_return (action_at i)) || not (is_in_range clauses i.at)

-- all of these
abbrev pub keeps_to_ranges : List Clause → Instr → Bool
keeps_to_ranges clauses i =
    goes_its_ways clauses i && (begins_outside clauses i && (leaves_its_ranges clauses i
    && (ends_its_handler clauses i && (rethrows_in_catch clauses i && returns_outside clauses i))))

-- ---- the rules

-- whether an instruction, before which a stack is known, keeps a rule; the offsets are those that are reached
abbrev pub keeps : Scope → Body → List ℕ → Instr → Stack → Rule → Bool
keeps scope body offsets i stack MeetsAtOneDepth = is_at_one_depth stack
keeps scope body offsets i stack HasNoConflict = has_no_conflict stack
keeps scope body offsets i stack IsWithinMaxStack = is_within_depth body.max_stack stack
keeps scope body offsets i stack NamesItsKind = has_kind_of_item (row_at scope body offsets i)
keeps scope body offsets i stack HasItsOperands =
    on_slots true (λ slots. option_map_or (suits_row slots) (row_at scope body offsets i) true) stack
keeps scope body offsets i stack GoesItsWays = goes_its_ways body.clauses i
keeps scope body offsets i stack BeginsOutsideHandlers = begins_outside body.clauses i
keeps scope body offsets i stack LeavesWell = leaves_its_ranges body.clauses i
keeps scope body offsets i stack EndsItsHandler = ends_its_handler body.clauses i
keeps scope body offsets i stack RethrowsWhatWasCaught = rethrows_in_catch body.clauses i
keeps scope body offsets i stack ReturnsOutsideClauses = returns_outside body.clauses i
keeps scope body offsets i stack ReturnsItsResultAlone =
    not (is_return (action_at i))
    || on_slots true (λ slots. option_map_or (λ row. not (nat_lt row.takes (length slots)))
    (row_at scope body offsets i) true) stack
keeps scope body offsets i stack PrefixesItsInstruction = prefixes_well body.code body.clauses i

-- an instruction fails that breaks a rule
abbrev pub fails : Scope → Body → List ℕ → Instr → Stack → Bool
fails scope body offsets i stack = not (list_all (keeps scope body offsets i stack) rules)
