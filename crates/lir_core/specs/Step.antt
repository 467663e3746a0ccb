-- The step of a program at the word level, and its runs.
use Rattle.std.specs.Prelude.{ℕ, ◌+◌, ◌*◌, Bool, not, ◌==◌, ◌||◌, nat_le, if◌then◌else◌, ℤ, pos, List, [], ◌∷◌}
use Rattle.std.specs.Prelude.{slice_get, Option, Some, None}
use Rattle.std.specs.Ordering.{int_eq}
use Rattle.std.specs.Option.{option_and_then}
use Rattle.num_core.specs.Run.{Run, Ended, Streams, after}
use Rattle.num_core.specs.declared.kind.Kind.{Kind}
use Rattle.num_core.specs.declared.kind.Narrow.{Narrow}
use Rattle.lir_core.specs.Frame.{fixed_bytes}
use Rattle.lir_core.specs.Check.{can_be_addressed}
use Rattle.lir_core.specs.Calls.{Given, calls, enters, returns}
use Rattle.lir_core.specs.Handlers.{finishes, leaves, raises, rethrows, searches, unwinds}
use Rattle.lir_core.specs.Memory.{cells_of, copied, number_in, with_cells, zeros}
use Rattle.lir_core.specs.Pieces.{bytes_of_type, word}
use Rattle.lir_core.specs.Program.{EndsProgram, GoesOn, Outcome, WordProgram, no_step, with}
use Rattle.lir_core.specs.Slots.{Here, gives, goes_on_with, goes_to, place_here, place_of, value_in, word_in, words_in}
use Rattle.lir_core.specs.State.{ASearch, AnOperation, AnUnwind, Frame, UnderWay, WordCause, WordState}
use Rattle.lir_core.specs.Values.{changed, combined, combined_in_range, divided, holds_of, is_least_by_minus_one}
use Rattle.lir_core.specs.Values.{value_converted, value_in_range, value_shifted, widened, word_of}
use Rattle.lir_core.specs.declared.op.DivisionPart.{DivisionPart}
use Rattle.lir_core.specs.declared.op.LirOp.{LirOp}
use Rattle.lir_core.specs.declared.op.LirOp.TheVariants.{Constant, Address, SlotAddress, Dictionary, Move, Load}
use Rattle.lir_core.specs.declared.op.LirOp.TheVariants.{Store, Copy, Clear, Binary, Unary, Checked, Divide, Shift}
use Rattle.lir_core.specs.declared.op.LirOp.TheVariants.{Convert, ConvertChecked, Compare, Branch, BranchIfZero}
use Rattle.lir_core.specs.declared.op.LirOp.TheVariants.{BranchUnlessZero, Jump, Call, Routine, Raise, Rethrow}
use Rattle.lir_core.specs.declared.op.LirOp.TheVariants.{Leave, EndHandler, Return}
use Rattle.lir_core.specs.declared.op.Place.{Place}

-- a slot gets the word of a value
abbrev pub gives_value : Here → ℕ → Streams → ℤ → Run WordState WordCause
gives_value here to streams value = gives here to (word_of value) streams

-- what two values do, and one
abbrev pub by_values : Here → Kind → ℕ → ℕ → Streams → (ℤ → ℤ → Run WordState WordCause) → Run WordState WordCause
by_values here kind left right streams next =
    with (value_in here kind left) streams (λ a. with (value_in here kind right) streams (next a))

-- a slot gets the word of a value, or control goes to a place where there is none
abbrev pub gives_or : Here → ℕ → ℕ → Streams → Option ℤ → Run WordState WordCause
gives_or here to otherwise streams None = goes_to here otherwise streams
gives_or here to otherwise streams (Some value) = gives_value here to streams value

abbrev pub moves : Here → ℕ → ℕ → Streams → Run WordState WordCause
moves here to from streams =
    with (option_and_then (λ place. copied here.state.memory place 8) (place_here here (word from))) streams (λ cells.
    with (option_and_then (λ place. with_cells here.state.memory place cells) (place_here here (word to))) streams
    (goes_on_with here streams))

abbrev pub loads : Here → ℕ → Place → Narrow → Streams → Run WordState WordCause
loads here to from narrow streams =
    with (option_and_then (λ place. number_in here.state.memory place (bytes_of_type narrow))
    (place_of here from (bytes_of_type narrow))) streams
    (λ n. gives_value here to streams (widened narrow n))

abbrev pub stores : Here → Place → ℕ → Narrow → Streams → Run WordState WordCause
stores here to from narrow streams =
    with (word_in here from) streams (λ value.
    with (option_and_then (λ place. with_cells here.state.memory place (cells_of (bytes_of_type narrow) value))
    (place_of here to (bytes_of_type narrow))) streams
    (goes_on_with here streams))

-- two ranges of so many bytes don't meet, or the first isn't behind the other
abbrev pub may_be_copied_to : ℕ → ℕ → ℕ → Bool
may_be_copied_to target source bytes = nat_le target source || nat_le (source + bytes) target

abbrev pub copies : Here → Place → Place → ℕ → Streams → Run WordState WordCause
copies here to from bytes streams =
    with (place_of here from bytes) streams (λ source.
    with (place_of here to bytes) streams (λ target.
    if may_be_copied_to target source bytes
    then with (option_and_then (with_cells here.state.memory target) (copied here.state.memory source bytes)) streams
    (goes_on_with here streams)
    else no_step streams))

abbrev pub clears : Here → Place → ℕ → Streams → Run WordState WordCause
clears here to bytes streams =
    with (option_and_then (λ place. with_cells here.state.memory place (zeros bytes)) (place_of here to bytes)) streams
    (goes_on_with here streams)

abbrev pub divides : Here → DivisionPart → Kind → ℕ → ℕ → ℕ → ℕ → ℕ → Streams → Run WordState WordCause
divides here part kind to left right if_zero overflow streams = by_values here kind left right streams (λ a b.
    if int_eq b (pos 0) then goes_to here if_zero streams
    else if is_least_by_minus_one kind a b then goes_to here overflow streams
    else gives_value here to streams (divided part kind a b))

-- 1 or 0
abbrev pub one_if : Bool → ℕ
one_if holds = if holds then 1 else 0

-- on to a place if a test holds, and else to the next operation
abbrev pub branches : Here → ℕ → Streams → Bool → Run WordState WordCause
branches here label streams holds = goes_to here (if holds then label else here.frame.place + 1) streams

-- behind a routine: its result stands in a slot, if one takes it
abbrev pub with_result : Here → Option ℕ → Option ℕ → Streams → Run WordState WordCause
with_result here None result streams = goes_on_with here streams here.state.memory
with_result here (Some to) result streams = with result streams (λ value. gives here to value streams)

abbrev pub goes_on_by : Here → Option ℕ → Outcome → Run WordState WordCause
goes_on_by here to (EndsProgram status streams) = Ended status streams
goes_on_by here to (GoesOn effect) =
    with_result (record here { state = record here.state { memory = effect.memory; heap_used = effect.heap_used } })
    to effect.result effect.streams

abbrev pub does_routine : Here → ℕ → List ℕ → Option ℕ → Streams → Run WordState WordCause
does_routine here number arguments to streams =
    with (here.program.routine number) streams (λ routine.
    with (words_in here arguments) streams (λ words.
    with (routine words here.state.memory here.state.heap_used streams) streams (goes_on_by here to)))

-- what each operation does
abbrev pub performs : LirOp → Here → Streams → Run WordState WordCause
performs (Constant to value) here streams = gives_value here to streams value
performs (Address to kind item) here streams =
    with (here.program.address_of kind item) streams (λ address. gives here to address streams)
performs (SlotAddress to slot) here streams =
    if can_be_addressed here.body slot then gives here to (here.frame.address + (fixed_bytes + 8 * slot)) streams
    else no_step streams
performs (Dictionary to) here streams = with here.frame.dictionary streams (λ value. gives here to value streams)
performs (Move to from) here streams = moves here to from streams
performs (Load to from narrow) here streams = loads here to from narrow streams
performs (Store to from narrow) here streams = stores here to from narrow streams
performs (Copy to from bytes) here streams = copies here to from bytes streams
performs (Clear to bytes) here streams = clears here to bytes streams
performs (Binary operation kind to left right) here streams =
    by_values here kind left right streams (λ a b. gives_value here to streams (combined operation kind a b))
performs (Unary operation kind to value) here streams =
    with (value_in here kind value) streams (λ a. gives_value here to streams (changed operation kind a))
performs (Checked operation kind to left right overflow) here streams =
    by_values here kind left right streams
    (λ a b. gives_or here to overflow streams (combined_in_range operation kind a b))
performs (Divide part kind to left right if_zero overflow) here streams =
    divides here part kind to left right if_zero overflow streams
performs (Shift operation kind to value amount) here streams =
    with (value_in here kind value) streams (λ a.
    with (value_in here Kind.I8 amount) streams (λ by. gives_value here to streams (value_shifted operation kind a by)))
performs (Convert narrow from to value) here streams =
    with (value_in here from value) streams (λ a. gives_value here to streams (value_converted narrow from a))
performs (ConvertChecked narrow from to value overflow) here streams =
    with (value_in here from value) streams (λ a. gives_or here to overflow streams (value_in_range narrow from a))
performs (Compare test kind to left right) here streams =
    by_values here kind left right streams (λ a b. gives here to (one_if (holds_of test kind a b)) streams)
performs (Branch test kind left right label) here streams =
    by_values here kind left right streams (λ a b. branches here label streams (holds_of test kind a b))
performs (BranchIfZero value label) here streams =
    with (word_in here value) streams (λ n. branches here label streams (n == 0))
performs (BranchUnlessZero value label) here streams =
    with (word_in here value) streams (λ n. branches here label streams (not (n == 0)))
performs (Jump label) here streams = goes_to here label streams
performs (Call callee dictionary arguments cleared result) here streams =
    calls here callee dictionary arguments cleared streams
performs (Routine number arguments result) here streams = does_routine here number arguments result streams
performs (Raise object) here streams = with (word_in here object) streams (λ address. raises here address streams)
performs Rethrow here streams = rethrows here streams
performs (Leave label) here streams = leaves here label streams
performs EndHandler here streams = finishes here streams
performs (Return result) here streams = returns here result streams

-- the operation at which a frame stands
abbrev pub operates : WordProgram → WordState → List Frame → Streams → Run WordState WordCause
operates program state [] streams = no_step streams
operates program state (frame ∷ below) streams =
    with (program.body_of frame.item) streams (λ body.
    with (slice_get body.ops frame.place) streams (λ op.
    performs op (record { program = program; state = state; body = body; frame = frame; below = below }) streams))

abbrev pub goes_on_from : WordProgram → WordState → UnderWay → Streams → Run WordState WordCause
goes_on_from program state AnOperation streams = operates program state state.frames streams
goes_on_from program state (ASearch object candidates) streams = searches program state object candidates streams
goes_on_from program state (AnUnwind caught rest) streams = unwinds program state caught rest streams

-- one step
abbrev pub word_step : WordProgram → WordState → Streams → Run WordState WordCause
word_step program state streams = goes_on_from program state state.under_way streams

-- the memory of the image, and no frame
abbrev pub word_start : WordProgram → WordState
word_start program = record { frames = []; memory = program.image; heap_used = 0; under_way = AnOperation }

-- where the program stands after n steps, which begins with an item's body, entered with these arguments
abbrev pub word_run : WordProgram → ℕ → List Given → List ℕ → ℕ → Run WordState WordCause
word_run program item given input n =
    let streams : Streams = record { input = input; output = []; error = [] } in
    after (word_step program) n (enters program (word_start program) item None given [] streams)
