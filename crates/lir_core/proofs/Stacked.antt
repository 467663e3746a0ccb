-- In a run of a program that is laid out the frames lie one behind the other, and take no more than they may.
use Rattle.std.proofs.Common.{◌≡◌, ℕ, ℤ, pos, zero, suc, ◌+◌, ◌-◌, ◌*◌, ◌%◌, ◌≤◌, Bool, true, false, not, ◌&&◌, ◌==◌}
use Rattle.std.proofs.Common.{nat_lt, cond, if◌then◌else◌, List, [], ◌∷◌, filter, slice_get, Option, Some, None, refl}
use Rattle.std.proofs.Common.{sym, subst, arith}
use Rattle.std.specs.Option.{option_and_then}
use Rattle.std.specs.Ordering.{int_eq}
use Rattle.std.proofs.lemmas.Bool.{ltb-false}
use Rattle.num_core.specs.Run.{Run, Running, Ended, Stopped, Streams, one_more}
use Rattle.num_core.specs.declared.kind.Kind.{Kind}
use Rattle.lir_core.specs.Calls.{Given, cells_here, cleared_here, dictionary_of, ends_program, enters, enters_body}
use Rattle.lir_core.specs.Calls.{given_by, item_of, lowest, result_of, returns_to, stack_text, stack_with, takes_result}
use Rattle.lir_core.specs.Calls.{with_arguments, with_new_frame}
use Rattle.lir_core.specs.Check.{can_be_addressed}
use Rattle.lir_core.specs.Frame.{fixed_bytes}
use Rattle.lir_core.specs.Handlers.{at_target, caught_at, drops_frame, enters_catch, finishes_first, goes_on_for}
use Rattle.lir_core.specs.Handlers.{goes_on_searching, goes_on_to, goes_through, in_catch, in_handler, is_finally}
use Rattle.lir_core.specs.Handlers.{is_tried, one_less_above, raises, searches, tests, tried_in, unwinds_from}
use Rattle.lir_core.specs.Handlers.{unwinds_to}
use Rattle.lir_core.specs.Layout.{AreStacked, FramesFit, IsLaidOut}
use Rattle.lir_core.specs.Memory.{Cell, FlatMemory, cells_of, copied, number_in, with_cells, zeros}
use Rattle.lir_core.specs.Pieces.{bytes_of_type, of_block, word}
use Rattle.lir_core.specs.Program.{EndsProgram, GoesOn, Outcome, RoutineEffect, WordProgram, ends_with, no_step, with}
use Rattle.lir_core.specs.Slots.{Here, gives, goes_on_with, goes_to, memory_with, place_here, place_in_frame, place_of}
use Rattle.lir_core.specs.Slots.{value_in, with_frame, without_frame, word_in, words_in}
use Rattle.lir_core.specs.State.{ASearch, AnOperation, AnUnwind, Candidate, Catch, Caught, Clause, Entered, Fault}
use Rattle.lir_core.specs.State.{Finally, ForObject, Frame, Goal, HandlerKind, OnTheWay, Purpose, ToCatch, ToPlace}
use Rattle.lir_core.specs.State.{UnderWay, WordCause, WordState}
use Rattle.lir_core.specs.Step.{branches, by_values, gives_or, gives_value, goes_on_by, goes_on_from, may_be_copied_to}
use Rattle.lir_core.specs.Step.{one_if, operates, performs, with_result, word_run, word_start, word_step}
use Rattle.lir_core.specs.Values.{changed, combined, combined_in_range, divided, holds_of, is_least_by_minus_one}
use Rattle.lir_core.specs.Values.{value_converted, value_in_range, value_shifted, widened, word_of}
use Rattle.lir_core.specs.declared.body.LirBody.{LirBody}
use Rattle.lir_core.specs.declared.op.Block.{Block}
use Rattle.lir_core.specs.declared.op.LirOp.{LirOp}
use Rattle.lir_core.specs.declared.op.LirOp.TheVariants.{Constant, Address, SlotAddress, Dictionary, Move, Load}
use Rattle.lir_core.specs.declared.op.LirOp.TheVariants.{Store, Copy, Clear, Binary, Unary, Checked, Divide, Shift}
use Rattle.lir_core.specs.declared.op.LirOp.TheVariants.{Convert, ConvertChecked, Compare, Branch, BranchIfZero}
use Rattle.lir_core.specs.declared.op.LirOp.TheVariants.{BranchUnlessZero, Jump, Call, Routine, Raise, Rethrow}
use Rattle.lir_core.specs.declared.op.LirOp.TheVariants.{Leave, EndHandler, Return}

-- the frames of a run fit, as long as it goes on
abbrev Kept : WordProgram → Run WordState WordCause → Type 0
Kept program (Running state streams) = FramesFit program state.frames
Kept program (Ended status streams) = Unit {0}
Kept program (Stopped cause streams) = Unit {0}

kept_with : {A : Type 0} (program : WordProgram) (o : Option A) (streams : Streams)
    (next : A → Run WordState WordCause) → ((x : A) → o ≡ Some x → Kept program (next x))
    → Kept program (with o streams next)
kept_with program None streams next each = tt
kept_with program (Some x) streams next each = each x refl

kept_if : (program : WordProgram) (b : Bool) (x y : Run WordState WordCause) → Kept program x → Kept program y
    → Kept program (cond b x y)
kept_if program true x y first second = first
kept_if program false x y first second = second

-- ---- frames

-- a frame that has gone on
moved : (program : WordProgram) (frame : Frame) (place : ℕ) (entered : List Entered) (below : List Frame)
    → FramesFit program (frame ∷ below)
    → FramesFit program (record frame { place = place; entered = entered } ∷ below)
moved program frame place entered below fits = record { stacked = fits.stacked; within = fits.within }

-- the frames below the innermost one
below_fit : (program : WordProgram) (frame : Frame) (frames : List Frame) → FramesFit program (frame ∷ frames)
    → FramesFit program frames
below_fit program frame [] fits = record { stacked = refl; within = omega arith }
below_fit program frame (next ∷ frames) fits =
    let body : LirBody = fits.stacked.0 in
    let at : next.address ≡ frame.address + body.frame = fits.stacked.3.2 in
    let within : program.stack_end ≤ frame.address + program.stack_bound = fits.within in
    record {
      stacked = subst (λ a. AreStacked program a (next ∷ frames)) (sym at) fits.stacked.3;
      within = omega (arith, at, within);
    }

-- one more frame
one_more_fits : (program : WordProgram) (item : ℕ) (body : LirBody) (dictionary : Option ℕ) (frames : List Frame)
    → program.stack_bound ≤ program.stack_end → program.body_of item ≡ Some body
    → stack_with program frames body ≤ program.stack_bound → FramesFit program frames
    → FramesFit program (record {
      item = item;
      place = 0;
      address = lowest program frames - body.frame;
      dictionary = dictionary;
      entered = [];
    } ∷ frames)
one_more_fits program item body dictionary frames small is few fits =
    let low : ℕ = lowest program frames in
    let room : (program.stack_end - low) + body.frame ≤ program.stack_bound = few in
    let fit : body.frame ≤ low = omega (arith, room, small) in
    let back : low ≡ (low - body.frame) + body.frame = omega (arith, fit) in
    record {
      stacked = (body, is, refl, subst (λ a. AreStacked program a frames) back fits.stacked);
      within = omega (arith, room, fit);
    }

-- ---- calls and returns

entered_by : (program : WordProgram) (state : WordState) (item : ℕ) (body : LirBody) (dictionary : Option ℕ)
    (given : List Given) (frames : List Frame) (streams : Streams) (b : Bool)
    → nat_lt program.stack_bound (stack_with program frames body) ≡ b
    → program.stack_bound ≤ program.stack_end → program.body_of item ≡ Some body → FramesFit program frames
    → Kept program (cond b (ends_with stack_text streams)
    (with (with_arguments body (lowest program frames - body.frame) given
    (with_frame body (lowest program frames - body.frame) state.memory)) streams
    (λ memory. Running
    (with_new_frame state item (lowest program frames - body.frame) dictionary frames memory) streams)))
entered_by program state item body dictionary given frames streams true test small is fits = tt
entered_by program state item body dictionary given frames streams false test small is fits =
    kept_with program (with_arguments body (lowest program frames - body.frame) given
    (with_frame body (lowest program frames - body.frame) state.memory)) streams
    (λ memory. Running
    (with_new_frame state item (lowest program frames - body.frame) dictionary frames memory) streams)
    (λ memory e. one_more_fits program item body dictionary frames small is
    (ltb-false program.stack_bound (stack_with program frames body) test) fits)

enters_kept : (program : WordProgram) (state : WordState) (item : ℕ) (dictionary : Option ℕ) (given : List Given)
    (frames : List Frame) (streams : Streams) → program.stack_bound ≤ program.stack_end → FramesFit program frames
    → Kept program (enters program state item dictionary given frames streams)
enters_kept program state item dictionary given frames streams small fits =
    kept_with program (program.body_of item) streams
    (λ body. enters_body program state item body dictionary given frames streams)
    (λ body is. entered_by program state item body dictionary given frames streams
    (nat_lt program.stack_bound (stack_with program frames body)) refl small is fits)

-- what is known where an operation is done
record Fits (here : Here) : Type 0 where
  small : here.program.stack_bound ≤ here.program.stack_end
  all : FramesFit here.program here.state.frames
  here_on : FramesFit here.program (here.frame ∷ here.below)

takes_kept : (program : WordProgram) (state : WordState) (block : Block) (cells : List Cell) (frame : Frame)
    (below : List Frame) (memory : FlatMemory) (streams : Streams) → FramesFit program (frame ∷ below)
    → Kept program (takes_result program state block cells frame below memory streams)
takes_kept program state block cells frame below memory streams fits =
    let placed : LirBody → Block → Option FlatMemory =
    λ body result. option_and_then (λ place. with_cells memory place cells)
    (place_in_frame body frame.address (of_block result)) in
    let taken : FlatMemory → Run WordState WordCause =
    λ memory'. Running
    (record state { frames = record frame { place = frame.place + 1 } ∷ below; memory = memory' }) streams in
    let sized : LirBody → Block → Run WordState WordCause =
    λ body result. if result.words == block.words then with (placed body result) streams taken else no_step streams in
    kept_with program (program.body_of frame.item) streams
    (λ body. with (result_of (slice_get body.ops frame.place)) streams (sized body))
    (λ body is. kept_with program (result_of (slice_get body.ops frame.place)) streams (sized body)
    (λ result is'. kept_if program (result.words == block.words) (with (placed body result) streams taken)
    (no_step streams)
    (kept_with program (placed body result) streams taken
    (λ memory' is''. moved program frame (frame.place + 1) frame.entered below fits))
    tt))

ends_kept : (here : Here) (block : Block) (streams : Streams) → Kept here.program (ends_program here block streams)
ends_kept here block streams =
    let last : ℕ → Run WordState WordCause = λ word. Ended (word % 256) streams in
    kept_if here.program (block.words == 0) (Ended 0 streams)
    (if block.words == 1 then with (word_in here block.slot) streams last else no_step streams) tt
    (kept_if here.program (block.words == 1) (with (word_in here block.slot) streams last) (no_step streams)
    (kept_with here.program (word_in here block.slot) streams last (λ word is. tt)) tt)

returns_kept : (here : Here) (block : Block) (frames : List Frame) (streams : Streams)
    → FramesFit here.program (here.frame ∷ frames) → Kept here.program (returns_to here block frames streams)
returns_kept here block [] streams fits = ends_kept here block streams
returns_kept here block (frame ∷ below) streams fits =
    let left : FlatMemory = without_frame here.body here.frame.address here.state.memory in
    kept_with here.program (cells_here here (of_block block)) streams
    (λ cells. takes_result here.program here.state block cells frame below left streams)
    (λ cells is. takes_kept here.program here.state block cells frame below left streams
    (below_fit here.program here.frame (frame ∷ below) fits))

-- ---- operations

to_kept : (here : Here) (place : ℕ) (streams : Streams) → Fits here → Kept here.program (goes_to here place streams)
to_kept here place streams f = moved here.program here.frame place here.frame.entered here.below f.here_on

on_kept : (here : Here) (streams : Streams) (memory : FlatMemory) → Fits here
    → Kept here.program (goes_on_with here streams memory)
on_kept here streams memory f =
    moved here.program here.frame (here.frame.place + 1) here.frame.entered here.below f.here_on

with_memory : (here : Here) (o : Option FlatMemory) (streams : Streams) → Fits here
    → Kept here.program (with o streams (goes_on_with here streams))
with_memory here o streams f =
    kept_with here.program o streams (goes_on_with here streams) (λ memory is. on_kept here streams memory f)

gives_kept : (here : Here) (slot value : ℕ) (streams : Streams) → Fits here
    → Kept here.program (gives here slot value streams)
gives_kept here slot value streams f = with_memory here (memory_with here slot value) streams f

by_values_kept : (here : Here) (kind : Kind) (left right : ℕ) (streams : Streams)
    (next : ℤ → ℤ → Run WordState WordCause)
    → ((a b : ℤ) → Kept here.program (next a b)) → Kept here.program (by_values here kind left right streams next)
by_values_kept here kind left right streams next each =
    kept_with here.program (value_in here kind left) streams (λ a. with (value_in here kind right) streams (next a))
    (λ a is. kept_with here.program (value_in here kind right) streams (next a) (λ b is'. each a b))

branches_kept : (here : Here) (label : ℕ) (streams : Streams) (holds : Bool) → Fits here
    → Kept here.program (branches here label streams holds)
branches_kept here label streams holds f = to_kept here (if holds then label else here.frame.place + 1) streams f

gives_or_kept : (here : Here) (to otherwise : ℕ) (streams : Streams) (o : Option ℤ) → Fits here
    → Kept here.program (gives_or here to otherwise streams o)
gives_or_kept here to otherwise streams None f = to_kept here otherwise streams f
gives_or_kept here to otherwise streams (Some value) f = gives_kept here to (word_of value) streams f

result_kept : (here : Here) (to result : Option ℕ) (streams : Streams) → Fits here
    → Kept here.program (with_result here to result streams)
result_kept here None result streams f = on_kept here streams here.state.memory f
result_kept here (Some to) result streams f =
    kept_with here.program result streams (λ value. gives here to value streams)
    (λ value is. gives_kept here to value streams f)

outcome_kept : (here : Here) (to : Option ℕ) (outcome : Outcome) → Fits here
    → Kept here.program (goes_on_by here to outcome)
outcome_kept here to (EndsProgram status streams) f = tt
outcome_kept here to (GoesOn effect) f =
    result_kept (record here { state = record here.state { memory = effect.memory; heap_used = effect.heap_used } })
    to effect.result effect.streams (record { small = f.small; all = f.all; here_on = f.here_on })

-- ---- handlers

through_kept : (program : WordProgram) (state : WordState) (clauses : List Clause) (place : ℕ) (frame : Frame)
    (below : List Frame) (streams : Streams) → FramesFit program (frame ∷ below)
    → Kept program (goes_through state clauses place frame below streams)
through_kept program state [] place frame below streams fits =
    moved program frame place (at_target place frame).entered below fits
through_kept program state (clause ∷ rest) place frame below streams fits =
    moved program frame clause.handler_begin (in_handler clause rest (ToPlace place) frame).entered below fits

goal_kept : (program : WordProgram) (goal : Goal) (rest : List Clause) (state : WordState) (frame : Frame)
    (below : List Frame) (streams : Streams) → FramesFit program (frame ∷ below)
    → Kept program (goes_on_to goal rest state frame below streams)
goal_kept program (ToPlace place) rest state frame below streams fits =
    through_kept program state rest place frame below streams fits
goal_kept program (ToCatch caught) rest state frame below streams fits = fits

purpose_kept : (program : WordProgram) (purpose : Purpose) (state : WordState) (frame : Frame) (below : List Frame)
    (streams : Streams) → FramesFit program (frame ∷ below)
    → Kept program (goes_on_for purpose state frame below streams)
purpose_kept program (ForObject object) state frame below streams fits = tt
purpose_kept program (OnTheWay rest goal) state frame below streams fits =
    goal_kept program goal rest state frame below streams fits

finishes_kept : (entered : List Entered) (here : Here) (streams : Streams) → Fits here
    → Kept here.program (finishes_first entered here streams)
finishes_kept [] here streams f = tt
finishes_kept (done ∷ others) here streams f =
    purpose_kept here.program done.purpose here.state (record here.frame { entered = others }) here.below streams
    (moved here.program here.frame here.frame.place others here.below f.here_on)

catch_kept : (program : WordProgram) (state : WordState) (caught : Caught) (frame : Frame) (below : List Frame)
    (streams : Streams) → FramesFit program (frame ∷ below)
    → Kept program (enters_catch program state caught frame below streams)
catch_kept program state caught frame below streams fits =
    let clause : Clause = caught.by.clause in
    let new : Frame = in_catch clause caught.object frame in
    let written : LirBody → Option FlatMemory =
    λ body. option_and_then (λ place. with_cells state.memory place (cells_of 8 caught.object))
    (place_in_frame body frame.address (word clause.object_slot)) in
    let entered : FlatMemory → Run WordState WordCause =
    λ memory. Running (record state { frames = new ∷ below; memory = memory; under_way = AnOperation }) streams in
    kept_with program (program.body_of frame.item) streams (λ body. with (written body) streams entered)
    (λ body is. kept_with program (written body) streams entered
    (λ memory is'. moved program frame clause.handler_begin new.entered below fits))

drop_kept : (program : WordProgram) (state : WordState) (caught : Caught) (frame : Frame) (below : List Frame)
    (streams : Streams) → FramesFit program (frame ∷ below)
    → Kept program (drops_frame program state caught frame below streams)
drop_kept program state caught frame below streams fits =
    kept_with program (program.body_of frame.item) streams
    (λ body. unwinds_to program
    (record state { frames = below; memory = without_frame body frame.address state.memory })
    (one_less_above caught) streams)
    (λ body is. below_fit program frame below fits)

unwinds_kept : (program : WordProgram) (state : WordState) (caught : Caught) (rest : List Clause) (frames : List Frame)
    (streams : Streams) → FramesFit program frames
    → Kept program (unwinds_from program state caught rest frames streams)
unwinds_kept program state caught rest [] streams fits = tt
unwinds_kept program state caught (clause ∷ rest) (frame ∷ below) streams fits =
    moved program frame clause.handler_begin (in_handler clause rest (ToCatch caught) frame).entered below fits
unwinds_kept program state caught [] (frame ∷ below) streams fits =
    kept_if program (caught.by.above == 0) (enters_catch program state caught frame below streams)
    (drops_frame program state caught frame below streams) (catch_kept program state caught frame below streams fits)
    (drop_kept program state caught frame below streams fits)

tests_kept : (kind : HandlerKind) (program : WordProgram) (state : WordState) (object : ℕ) (by : Candidate)
    (others : List Candidate) (streams : Streams) → FramesFit program state.frames
    → Kept program (tests kind program state object by others streams)
tests_kept (Catch class) program state object by others streams fits =
    let found : Run WordState WordCause = unwinds_to program state (record { object = object; by = by }) streams in
    let not_found : Run WordState WordCause = goes_on_searching state object others streams in
    let tested : Bool → Run WordState WordCause = λ catches. if catches then found else not_found in
    kept_with program (slice_get state.frames by.above) streams
    (λ frame. with (program.catches class frame.dictionary state.memory object) streams tested)
    (λ frame is. kept_with program (program.catches class frame.dictionary state.memory object) streams tested
    (λ catches is'. kept_if program catches found not_found fits fits))
tests_kept Finally program state object by others streams fits = fits
tests_kept Fault program state object by others streams fits = fits

searches_kept : (program : WordProgram) (state : WordState) (object : ℕ) (candidates : List Candidate)
    (streams : Streams) → FramesFit program state.frames
    → Kept program (searches program state object candidates streams)
searches_kept program state object [] streams fits = tt
searches_kept program state object (by ∷ others) streams fits =
    tests_kept by.clause.kind program state object by others streams fits

-- ---- steps and runs

performs_kept : (op : LirOp) (here : Here) (streams : Streams) → Fits here
    → Kept here.program (performs op here streams)
performs_kept (Constant to value) here streams f = gives_kept here to (word_of value) streams f
performs_kept (Address to kind item) here streams f =
    kept_with here.program (here.program.address_of kind item) streams (λ address. gives here to address streams)
    (λ address is. gives_kept here to address streams f)
performs_kept (SlotAddress to slot) here streams f =
    let address : ℕ = here.frame.address + (fixed_bytes + 8 * slot) in
    kept_if here.program (can_be_addressed here.body slot) (gives here to address streams) (no_step streams)
    (gives_kept here to address streams f) tt
performs_kept (Dictionary to) here streams f =
    kept_with here.program here.frame.dictionary streams (λ value. gives here to value streams)
    (λ value is. gives_kept here to value streams f)
performs_kept (Move to from) here streams f =
    let moved_to : List Cell → Option FlatMemory =
    λ cells. option_and_then (λ place. with_cells here.state.memory place cells) (place_here here (word to)) in
    kept_with here.program
    (option_and_then (λ place. copied here.state.memory place 8) (place_here here (word from))) streams
    (λ cells. with (moved_to cells) streams (goes_on_with here streams))
    (λ cells is. with_memory here (moved_to cells) streams f)
performs_kept (Load to from narrow) here streams f =
    kept_with here.program
    (option_and_then (λ place. number_in here.state.memory place (bytes_of_type narrow))
    (place_of here from (bytes_of_type narrow))) streams
    (λ n. gives_value here to streams (widened narrow n))
    (λ n is. gives_kept here to (word_of (widened narrow n)) streams f)
performs_kept (Store to from narrow) here streams f =
    let stored : ℕ → Option FlatMemory =
    λ value. option_and_then
    (λ place. with_cells here.state.memory place (cells_of (bytes_of_type narrow) value))
    (place_of here to (bytes_of_type narrow)) in
    kept_with here.program (word_in here from) streams
    (λ value. with (stored value) streams (goes_on_with here streams))
    (λ value is. with_memory here (stored value) streams f)
performs_kept (Copy to from bytes) here streams f =
    let copy : ℕ → ℕ → Option FlatMemory =
    λ source target. option_and_then (with_cells here.state.memory target) (copied here.state.memory source bytes) in
    let next : ℕ → ℕ → Run WordState WordCause =
    λ source target. if may_be_copied_to target source bytes
    then with (copy source target) streams (goes_on_with here streams) else no_step streams in
    kept_with here.program (place_of here from bytes) streams
    (λ source. with (place_of here to bytes) streams (next source))
    (λ source is. kept_with here.program (place_of here to bytes) streams (next source)
    (λ target is'. kept_if here.program (may_be_copied_to target source bytes)
    (with (copy source target) streams (goes_on_with here streams)) (no_step streams)
    (with_memory here (copy source target) streams f) tt))
performs_kept (Clear to bytes) here streams f =
    with_memory here
    (option_and_then (λ place. with_cells here.state.memory place (zeros bytes)) (place_of here to bytes)) streams f
performs_kept (Binary operation kind to left right) here streams f =
    by_values_kept here kind left right streams
    (λ a b. gives_value here to streams (combined operation kind a b))
    (λ a b. gives_kept here to (word_of (combined operation kind a b)) streams f)
performs_kept (Unary operation kind to value) here streams f =
    kept_with here.program (value_in here kind value) streams
    (λ a. gives_value here to streams (changed operation kind a))
    (λ a is. gives_kept here to (word_of (changed operation kind a)) streams f)
performs_kept (Checked operation kind to left right overflow) here streams f =
    by_values_kept here kind left right streams
    (λ a b. gives_or here to overflow streams (combined_in_range operation kind a b))
    (λ a b. gives_or_kept here to overflow streams (combined_in_range operation kind a b) f)
performs_kept (Divide part kind to left right if_zero overflow) here streams f =
    let quotient : ℤ → ℤ → Run WordState WordCause =
    λ a b. gives_value here to streams (divided part kind a b) in
    let tested : ℤ → ℤ → Run WordState WordCause =
    λ a b. if is_least_by_minus_one kind a b then goes_to here overflow streams else quotient a b in
    by_values_kept here kind left right streams
    (λ a b. if int_eq b (pos 0) then goes_to here if_zero streams else tested a b)
    (λ a b. kept_if here.program (int_eq b (pos 0)) (goes_to here if_zero streams) (tested a b)
    (to_kept here if_zero streams f)
    (kept_if here.program (is_least_by_minus_one kind a b) (goes_to here overflow streams) (quotient a b)
    (to_kept here overflow streams f) (gives_kept here to (word_of (divided part kind a b)) streams f)))
performs_kept (Shift operation kind to value amount) here streams f =
    kept_with here.program (value_in here kind value) streams
    (λ a. with (value_in here Kind.I8 amount) streams
    (λ by. gives_value here to streams (value_shifted operation kind a by)))
    (λ a is. kept_with here.program (value_in here Kind.I8 amount) streams
    (λ by. gives_value here to streams (value_shifted operation kind a by))
    (λ by is'. gives_kept here to (word_of (value_shifted operation kind a by)) streams f))
performs_kept (Convert narrow from to value) here streams f =
    kept_with here.program (value_in here from value) streams
    (λ a. gives_value here to streams (value_converted narrow from a))
    (λ a is. gives_kept here to (word_of (value_converted narrow from a)) streams f)
performs_kept (ConvertChecked narrow from to value overflow) here streams f =
    kept_with here.program (value_in here from value) streams
    (λ a. gives_or here to overflow streams (value_in_range narrow from a))
    (λ a is. gives_or_kept here to overflow streams (value_in_range narrow from a) f)
performs_kept (Compare test kind to left right) here streams f =
    by_values_kept here kind left right streams
    (λ a b. gives here to (one_if (holds_of test kind a b)) streams)
    (λ a b. gives_kept here to (one_if (holds_of test kind a b)) streams f)
performs_kept (Branch test kind left right label) here streams f =
    by_values_kept here kind left right streams
    (λ a b. branches here label streams (holds_of test kind a b))
    (λ a b. branches_kept here label streams (holds_of test kind a b) f)
performs_kept (BranchIfZero value label) here streams f =
    kept_with here.program (word_in here value) streams (λ n. branches here label streams (n == 0))
    (λ n is. branches_kept here label streams (n == 0) f)
performs_kept (BranchUnlessZero value label) here streams f =
    kept_with here.program (word_in here value) streams (λ n. branches here label streams (not (n == 0)))
    (λ n is. branches_kept here label streams (not (n == 0)) f)
performs_kept (Jump label) here streams f = to_kept here label streams f
performs_kept (Call callee dictionary arguments cleared result) here streams f =
    let new : ℕ → Option ℕ → List Given → FlatMemory → Run WordState WordCause =
    λ item word given memory. enters here.program (record here.state { memory = memory }) item word given
    (here.frame ∷ here.below) streams in
    let clear : ℕ → Option ℕ → List Given → Run WordState WordCause =
    λ item word given. with (cleared_here here cleared) streams (new item word given) in
    let give : ℕ → Option ℕ → Run WordState WordCause =
    λ item word. with (given_by here arguments) streams (clear item word) in
    kept_with here.program (item_of here callee) streams
    (λ item. with (dictionary_of here dictionary) streams (give item))
    (λ item is. kept_with here.program (dictionary_of here dictionary) streams (give item)
    (λ word is'. kept_with here.program (given_by here arguments) streams (clear item word)
    (λ given is''. kept_with here.program (cleared_here here cleared) streams (new item word given)
    (λ memory is'''. enters_kept here.program (record here.state { memory = memory }) item word given
    (here.frame ∷ here.below) streams f.small f.here_on))))
performs_kept (Routine number arguments result) here streams f =
    let done : RoutineEffect → List ℕ → Run WordState WordCause =
    λ routine words. with (routine words here.state.memory here.state.heap_used streams) streams
    (goes_on_by here result) in
    kept_with here.program (here.program.routine number) streams
    (λ routine. with (words_in here arguments) streams (done routine))
    (λ routine is. kept_with here.program (words_in here arguments) streams (done routine)
    (λ words is'. kept_with here.program (routine words here.state.memory here.state.heap_used streams) streams
    (goes_on_by here result) (λ outcome is''. outcome_kept here result outcome f)))
performs_kept (Raise object) here streams f =
    kept_with here.program (word_in here object) streams (λ address. raises here address streams)
    (λ address is. f.all)
performs_kept Rethrow here streams f =
    kept_with here.program (caught_at here.frame.place here.frame.entered) streams
    (λ object. raises here object streams) (λ object is. f.all)
performs_kept (Leave label) here streams f =
    through_kept here.program here.state
    (filter (λ clause. is_finally clause.kind && not (is_tried label clause)) (tried_in here.program here.frame))
    label here.frame here.below streams f.here_on
performs_kept EndHandler here streams f = finishes_kept here.frame.entered here streams f
performs_kept (Return result) here streams f = returns_kept here result here.below streams f.here_on

operates_kept : (program : WordProgram) (state : WordState) (frames : List Frame) (streams : Streams)
    → program.stack_bound ≤ program.stack_end → FramesFit program state.frames → FramesFit program frames
    → Kept program (operates program state frames streams)
operates_kept program state [] streams small all fits = tt
operates_kept program state (frame ∷ below) streams small all fits =
    let here : LirBody → Here =
    λ body. record { program = program; state = state; body = body; frame = frame; below = below } in
    kept_with program (program.body_of frame.item) streams
    (λ body. with (slice_get body.ops frame.place) streams (λ op. performs op (here body) streams))
    (λ body is. kept_with program (slice_get body.ops frame.place) streams (λ op. performs op (here body) streams)
    (λ op is'. performs_kept op (here body) streams (record { small = small; all = all; here_on = fits })))

under_way_kept : (program : WordProgram) (state : WordState) (under_way : UnderWay) (streams : Streams)
    → program.stack_bound ≤ program.stack_end → FramesFit program state.frames
    → Kept program (goes_on_from program state under_way streams)
under_way_kept program state AnOperation streams small fits =
    operates_kept program state state.frames streams small fits fits
under_way_kept program state (ASearch object candidates) streams small fits =
    searches_kept program state object candidates streams fits
under_way_kept program state (AnUnwind caught rest) streams small fits =
    unwinds_kept program state caught rest state.frames streams fits

step_kept : (program : WordProgram) (run : Run WordState WordCause) → program.stack_bound ≤ program.stack_end
    → Kept program run → Kept program (one_more (word_step program) run)
step_kept program (Running state streams) small fits =
    under_way_kept program state state.under_way streams small fits
step_kept program (Ended status streams) small fits = tt
step_kept program (Stopped cause streams) small fits = tt

run_kept : (program : WordProgram) (item : ℕ) (given : List Given) (input : List ℕ) (n : ℕ)
    → program.stack_bound ≤ program.stack_end → Kept program (word_run program item given input n)
run_kept program item given input zero small =
    enters_kept program (word_start program) item None given []
    (record { input = input; output = []; error = [] }) small (record { stacked = refl; within = omega arith })
run_kept program item given input (suc n) small =
    step_kept program (word_run program item given input n) small (run_kept program item given input n small)

pub frames_fit : (program : WordProgram) (item : ℕ) (given : List Given) (input : List ℕ) (n : ℕ) (state : WordState)
    (streams : Streams) → IsLaidOut program → word_run program item given input n ≡ Running state streams
    → FramesFit program state.frames
frames_fit program item given input n state streams laid is =
    let all : program.heap_begin + program.heap_bound + program.stack_bound ≡ program.stack_end =
    laid.frames_behind_heap in
    subst (Kept program) is (run_kept program item given input n (omega (arith, all)))
