-- How many machine steps the step of a program at the word level takes at most.
use Rattle.std.specs.Prelude.{ℕ, ◌+◌, ◌*◌, ◌/◌, ◌==◌, Bool, true, false, nat_lt, if◌then◌else◌, List, [], ◌∷◌, length}
use Rattle.std.specs.Prelude.{slice_get, Option, Some, None}
use Rattle.std.specs.List.{sum_by}
use Rattle.std.specs.Option.{option_and_then}
use Rattle.num_core.specs.Run.{Run, Running, Ended, Stopped}
use Rattle.lir_core.specs.Program.{WordProgram}
use Rattle.lir_core.specs.State.{ASearch, AnOperation, AnUnwind, Frame, UnderWay, WordCause, WordState}
use Rattle.lir_core.specs.declared.op.Argument.{Argument}
use Rattle.lir_core.specs.declared.op.LirOp.{LirOp}
use Rattle.lir_core.specs.declared.op.LirOp.TheVariants.{Constant, Address, SlotAddress, Dictionary, Move, Load}
use Rattle.lir_core.specs.declared.op.LirOp.TheVariants.{Store, Copy, Clear, Binary, Unary, Checked, Divide, Shift}
use Rattle.lir_core.specs.declared.op.LirOp.TheVariants.{Convert, ConvertChecked, Compare, Branch, BranchIfZero}
use Rattle.lir_core.specs.declared.op.LirOp.TheVariants.{BranchUnlessZero, Jump, Call, Routine, Raise, Rethrow}
use Rattle.lir_core.specs.declared.op.LirOp.TheVariants.{Leave, EndHandler, Return}
use Rattle.lir_core.specs.declared.op.Place.{Place}
use Rattle.lir_core.specs.declared.op.Place.TheVariants.{Slot, Flat}

-- A slot is read or written by at most four instructions: far from the frame's begin three of them make its address.
-- A slot with a home takes none where an operand is read.

-- a number at a place
abbrev pub behind_address : ℕ → ℕ
behind_address offset = if nat_lt offset 2048 then 1 else 10

abbrev pub at_place : Place → ℕ
at_place (Slot slot offset) = 4
at_place (Flat base offset) = 4 + behind_address offset

-- words that a call gives, by one copy of each and by a loop
abbrev pub gives_words : Argument → ℕ
gives_words argument = if argument.words == 1 then 8 else 9 + 5 * argument.words

-- the routines by their numbers: the end, a byte written, and a byte read
abbrev pub in_routine : ℕ → ℕ
in_routine number = if number == 1 then 2 else if number == 2 then 7 else if number == 3 then 8 else 0

-- the line of error text of an object that nothing catches, and the end
abbrev pub in_last_line : ℕ
in_last_line = 23

-- the code of `start`, and the first instructions of the first body up to its first operation
abbrev pub in_begin : ℕ
in_begin = 61

-- Each operation in one row. A call takes its callee's first instructions up to its first operation along, which save
-- and load at most eight homes, and a return the caller's up to the operation behind its call.
abbrev pub most_steps : LirOp → ℕ
most_steps (Constant to value) = 12
most_steps (Address to kind item) = 6
most_steps (SlotAddress to slot) = 7
most_steps (Dictionary to) = 5
most_steps (Move to from) = 8
most_steps (Load to from narrow) = at_place from + 4
most_steps (Store to from narrow) = 4 + at_place to
most_steps (Copy to from bytes) = if bytes == 8 then at_place from + at_place to else 41 + 5 * (bytes / 8)
most_steps (Clear to bytes) = if bytes == 8 then at_place to else 25 + 3 * (bytes / 8)
most_steps (Binary operation kind to left right) = 13
most_steps (Unary operation kind to value) = 9
most_steps (Checked operation kind to left right overflow) = 20
most_steps (Divide part kind to left right if_zero overflow) = 20
most_steps (Shift operation kind to value amount) = 13
most_steps (Convert narrow from to value) = 10
most_steps (ConvertChecked narrow from to value overflow) = 12
most_steps (Compare test kind to left right) = 14
most_steps (Branch test kind left right label) = 11
most_steps (BranchIfZero value label) = 7
most_steps (BranchUnlessZero value label) = 7
most_steps (Jump label) = 2
most_steps (Call callee dictionary arguments cleared result) =
    66 + sum_by gives_words arguments + 3 * cleared.words
most_steps (Routine number arguments result) = 4 * length arguments + (6 + in_routine number)
most_steps (Raise object) = 2
most_steps Rethrow = 2
most_steps (Leave label) = 2
most_steps EndHandler = 2
most_steps (Return result) = 24 + 5 * result.words

-- whether all instructions of an operation stand in its own body's code
abbrev pub stays_in_body : LirOp → Bool
stays_in_body (Constant to value) = true
stays_in_body (Address to kind item) = true
stays_in_body (SlotAddress to slot) = true
stays_in_body (Dictionary to) = true
stays_in_body (Move to from) = true
stays_in_body (Load to from narrow) = true
stays_in_body (Store to from narrow) = true
stays_in_body (Copy to from bytes) = true
stays_in_body (Clear to bytes) = true
stays_in_body (Binary operation kind to left right) = true
stays_in_body (Unary operation kind to value) = true
stays_in_body (Checked operation kind to left right overflow) = true
stays_in_body (Divide part kind to left right if_zero overflow) = true
stays_in_body (Shift operation kind to value amount) = true
stays_in_body (Convert narrow from to value) = true
stays_in_body (ConvertChecked narrow from to value overflow) = true
stays_in_body (Compare test kind to left right) = true
stays_in_body (Branch test kind left right label) = true
stays_in_body (BranchIfZero value label) = true
stays_in_body (BranchUnlessZero value label) = true
stays_in_body (Jump label) = true
stays_in_body (Call callee dictionary arguments cleared result) = false
stays_in_body (Routine number arguments result) = false
stays_in_body (Raise object) = true
stays_in_body Rethrow = true
stays_in_body (Leave label) = true
stays_in_body EndHandler = true
stays_in_body (Return result) = false

-- the operation at which a state stands
abbrev pub operation_of : WordProgram → List Frame → Option LirOp
operation_of program [] = None
operation_of program (frame ∷ below) =
    option_and_then (λ body. slice_get body.ops frame.place) (program.body_of frame.item)

abbrev pub most_for : Option LirOp → ℕ
most_for None = 1
most_for (Some op) = most_steps op

abbrev pub most_under_way : UnderWay → Option LirOp → ℕ
most_under_way AnOperation op = most_for op
most_under_way (ASearch object candidates) op = in_last_line
most_under_way (AnUnwind caught rest) op = 1

-- and for the next step of a run
abbrev pub most_of_run : WordProgram → Run WordState WordCause → ℕ
most_of_run program (Running state streams) = most_under_way state.under_way (operation_of program state.frames)
most_of_run program (Ended status streams) = 1
most_of_run program (Stopped cause streams) = 1
