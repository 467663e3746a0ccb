-- The lines of each operation, and of a body.
use Rattle.std.specs.Prelude.{ℕ, pos, List, [], ◌∷◌, ◌++◌}
use Rattle.rv_isa.specs.declared.ins.Ins.{Ins}
use Rattle.lir_core.specs.Values.{word_of}
use Rattle.lir_core.specs.declared.body.LirBody.{LirBody}
use Rattle.lir_core.specs.declared.op.LirOp.{LirOp}
use Rattle.lir_core.specs.declared.op.LirOp.TheVariants.{Constant, Address, SlotAddress, Dictionary, Move, Load}
use Rattle.lir_core.specs.declared.op.LirOp.TheVariants.{Store, Copy, Clear, Binary, Unary, Checked, Divide, Shift}
use Rattle.lir_core.specs.declared.op.LirOp.TheVariants.{Convert, ConvertChecked, Compare, Branch, BranchIfZero}
use Rattle.lir_core.specs.declared.op.LirOp.TheVariants.{BranchUnlessZero, Jump, Call, Routine, Raise, Rethrow}
use Rattle.lir_core.specs.declared.op.LirOp.TheVariants.{Leave, EndHandler, Return}
use Rattle.rt_code.specs.Effects.{number_of}
use Rattle.rt_code.specs.declared.routines.Routine.TheVariants.{Unhandled}
use Rattle.rv_gen.specs.Calling.{calls, does_routine, enters, gets_item, goes_to_routine, returns}
use Rattle.rv_lines.specs.Computing.{changes, combines, combines_checked, compares, condition_of, converts}
use Rattle.rv_lines.specs.Computing.{converts_checked, divides, shifts}
use Rattle.rv_lines.specs.Frame.{dictionary_at, home, slot_place}
use Rattle.rv_lines.specs.Moving.{clears, copies, loads_place, moves, stores_place}
use Rattle.rv_lines.specs.Operands.{gets_address, loads_constant, puts_slot, reads_slot, register_or, writes_slot}
use Rattle.rv_lines.specs.declared.line.Condition.{Condition}
use Rattle.rv_lines.specs.declared.line.Line.{Line}

-- what gives a word to a register gives it to a slot: to its home, or to x7 and from there
abbrev pub to_slot : List ℕ → ℕ → (ℕ → List Line) → List Line
to_slot vars to gives = gives (register_or (home vars to) 7) ++ writes_slot (home vars to) 7 to

-- with the word of one slot in a register, its home or x5, and of two, their homes or x5 and x6
abbrev pub with_one : List ℕ → ℕ → (ℕ → List Line) → List Line
with_one vars value next = reads_slot (home vars value) 5 value ++ next (register_or (home vars value) 5)

abbrev pub with_two : List ℕ → ℕ → ℕ → (ℕ → ℕ → List Line) → List Line
with_two vars left right next =
    reads_slot (home vars left) 5 left ++ (reads_slot (home vars right) 6 right
    ++ next (register_or (home vars left) 5) (register_or (home vars right) 6))

-- what an operation becomes; a result that may be refused goes to its slot from x7, behind the branch
abbrev pub op_lines : LirBody → LirOp → List Line
op_lines body (Constant to value) = to_slot body.vars to (λ r. loads_constant r (word_of value))
op_lines body (Address to kind item) = to_slot body.vars to (λ r. gets_item r kind item)
op_lines body (SlotAddress to slot) = to_slot body.vars to (λ r. gets_address r 2 (slot_place slot))
op_lines body (Dictionary to) = to_slot body.vars to (λ r. Line.Single (Ins.Ld r 2 (pos dictionary_at)) ∷ [])
op_lines body (Move to from) = moves (home body.vars to) (home body.vars from) to from
op_lines body (Load to from narrow) = to_slot body.vars to (λ r. loads_place body.vars narrow r from)
op_lines body (Store to from narrow) =
    reads_slot (home body.vars from) 6 from ++ stores_place body.vars narrow (register_or (home body.vars from) 6) to
op_lines body (Copy to from bytes) = copies body.vars to from bytes
op_lines body (Clear to bytes) = clears body.vars to bytes
op_lines body (Binary operation kind to left right) =
    with_two body.vars left right
    (λ x y. to_slot body.vars to (λ r. Line.Single (combines operation kind r x y) ∷ []))
op_lines body (Unary operation kind to value) =
    with_one body.vars value (λ x. to_slot body.vars to (λ r. Line.Single (changes operation kind r x) ∷ []))
op_lines body (Checked operation kind to left right overflow) =
    with_two body.vars left right
    (λ x y. combines_checked operation kind x y overflow ++ puts_slot (home body.vars to) 7 to)
op_lines body (Divide part kind to left right if_zero overflow) =
    with_two body.vars left right (λ x y. to_slot body.vars to (λ r. divides part kind r x y if_zero overflow))
op_lines body (Shift operation kind to value amount) =
    with_two body.vars value amount
    (λ x y. to_slot body.vars to (λ r. Line.Single (shifts operation kind r x y) ∷ []))
op_lines body (Convert narrow from to value) =
    with_one body.vars value (λ x. to_slot body.vars to (λ r. converts narrow from r x))
op_lines body (ConvertChecked narrow from to value overflow) =
    with_one body.vars value (λ x. converts_checked narrow from x overflow ++ puts_slot (home body.vars to) 7 to)
op_lines body (Compare test kind to left right) =
    with_two body.vars left right (λ x y. to_slot body.vars to (λ r. compares test kind r x y))
op_lines body (Branch test kind left right label) =
    with_two body.vars left right (λ x y. Line.Branch (condition_of test kind) x y label ∷ [])
op_lines body (BranchIfZero value label) =
    with_one body.vars value (λ x. Line.Branch Condition.Equal x 0 label ∷ [])
op_lines body (BranchUnlessZero value label) =
    with_one body.vars value (λ x. Line.Branch Condition.NotEqual x 0 label ∷ [])
op_lines body (Jump label) = Line.Jump label ∷ []
op_lines body (Call callee dictionary arguments cleared result) =
    calls body.vars callee dictionary arguments cleared result
op_lines body (Routine number arguments result) = does_routine body.vars number arguments result
-- as in a program without handlers
op_lines body (Raise object) = goes_to_routine (number_of Unhandled)
op_lines body Rethrow = goes_to_routine (number_of Unhandled)
op_lines body (Leave label) = Line.Jump label ∷ []
op_lines body EndHandler = goes_to_routine (number_of Unhandled)
op_lines body (Return result) = returns body result

-- the lines of operations, each behind its label
abbrev pub ops_lines : LirBody → List LirOp → List Line
ops_lines body [] = []
ops_lines body (op ∷ ops) = Line.Label ∷ (op_lines body op ++ ops_lines body ops)

-- the lines of a body
unfoldable pub lines_of : LirBody → List Line
lines_of body = enters body ++ ops_lines body body.ops
