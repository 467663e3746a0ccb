-- Raising, and what runs on the way to a handler: ECMA-335 I.12.4.2.5 and III.3.46, III.3.35, III.4.24.
use Rattle.std.specs.Prelude.{ℕ, suc, ◌-◌, Bool, true, false, not, ◌&&◌, ◌==◌, nat_le, nat_lt, if◌then◌else◌, List}
use Rattle.std.specs.Prelude.{[], ◌∷◌, ◌++◌, filter, codes, slice_get, Option, Some, None}
use Rattle.std.specs.Option.{option_and_then, option_or}
use Rattle.num_core.specs.Run.{Run, Running, Streams}
use Rattle.lir_core.specs.Memory.{cells_of, with_cells}
use Rattle.lir_core.specs.Pieces.{word}
use Rattle.lir_core.specs.Program.{WordProgram, ends_with, no_step, with}
use Rattle.lir_core.specs.Slots.{Here, place_in_frame, without_frame}
use Rattle.lir_core.specs.State.{ASearch, AnOperation, AnUnwind, Candidate, Catch, Caught, Clause, Entered, Fault}
use Rattle.lir_core.specs.State.{Finally, ForObject, Frame, Goal, HandlerKind, OnTheWay, Purpose, ToCatch, ToPlace}
use Rattle.lir_core.specs.State.{WordCause, WordState}

abbrev pub unhandled_text : List ℕ
unhandled_text = codes "Unhandled exception" ++ 10 ∷ []

abbrev pub is_tried : ℕ → Clause → Bool
is_tried place clause = nat_le clause.try_begin place && nat_lt place clause.try_end

abbrev pub is_handled : ℕ → Clause → Bool
is_handled place clause = nat_le clause.handler_begin place && nat_lt place clause.handler_end

-- whether the handler runs where control leaves the try range, and where an exception passes it
abbrev pub is_finally : HandlerKind → Bool
is_finally (Catch class) = false
is_finally Finally = true
is_finally Fault = false

abbrev pub runs_in_passing : HandlerKind → Bool
runs_in_passing (Catch class) = false
runs_in_passing Finally = true
runs_in_passing Fault = true

abbrev pub running_in_passing : List Clause → List Clause
running_in_passing clauses = filter (λ clause. runs_in_passing clause.kind) clauses

-- the clauses whose try range holds a frame's place, inner ones first
abbrev pub tried_in : WordProgram → Frame → List Clause
tried_in program frame = filter (is_tried frame.place) (program.clauses_of frame.item)

-- the clauses of one frame as candidates; `inner` are those before them whose handlers run in passing
abbrev pub candidates_among : ℕ → List Clause → List Clause → List Candidate
candidates_among above inner [] = []
candidates_among above inner (clause ∷ clauses) =
    record { above = above; inner = inner; clause = clause }
    ∷ candidates_among above (if runs_in_passing clause.kind then inner ++ clause ∷ [] else inner) clauses

-- those of all frames, of which the first has so many above it
abbrev pub candidates : WordProgram → ℕ → List Frame → List Candidate
candidates program above [] = []
candidates program above (frame ∷ frames) =
    candidates_among above [] (tried_in program frame) ++ candidates program (suc above) frames

-- a raise begins a search, from the innermost frame down
abbrev pub raises : Here → ℕ → Streams → Run WordState WordCause
raises here object streams =
    Running (record here.state { under_way = ASearch object (candidates here.program 0 here.state.frames) }) streams

-- the clauses whose handlers run in the innermost frame before the one that catches is entered, or the frame is left
abbrev pub left_in : WordProgram → Candidate → List Frame → List Clause
left_in program by [] = []
left_in program by (frame ∷ frames) =
    if by.above == 0 then by.inner else running_in_passing (tried_in program frame)

abbrev pub unwinds_to : WordProgram → WordState → Caught → Streams → Run WordState WordCause
unwinds_to program state caught streams =
    Running (record state { under_way = AnUnwind caught (left_in program caught.by state.frames) }) streams

abbrev pub goes_on_searching : WordState → ℕ → List Candidate → Streams → Run WordState WordCause
goes_on_searching state object others streams = Running (record state { under_way = ASearch object others }) streams

-- a test of one clause: a catch by its class, and no other clause catches
abbrev pub tests : HandlerKind → WordProgram → WordState → ℕ → Candidate → List Candidate → Streams
    → Run WordState WordCause
tests (Catch class) program state object by others streams =
    with (slice_get state.frames by.above) streams (λ frame.
    with (program.catches class frame.dictionary state.memory object) streams (λ catches.
    if catches then unwinds_to program state (record { object = object; by = by }) streams
    else goes_on_searching state object others streams))
tests Finally program state object by others streams = goes_on_searching state object others streams
tests Fault program state object by others streams = goes_on_searching state object others streams

-- A step of a search. Where nothing catches the object the program ends, and no handler has run.
abbrev pub searches : WordProgram → WordState → ℕ → List Candidate → Streams → Run WordState WordCause
searches program state object [] streams = ends_with unhandled_text streams
searches program state object (by ∷ others) streams = tests by.clause.kind program state object by others streams

-- the frame at the begin of a finally or fault handler, with what is to come behind it
abbrev pub in_handler : Clause → List Clause → Goal → Frame → Frame
in_handler clause rest goal frame =
    record frame {
      place = clause.handler_begin;
      entered = record { clause = clause; purpose = OnTheWay rest goal } ∷ frame.entered;
    }

-- the handlers that were entered, from the last one on of whose clause a test holds; those entered since are left
abbrev pub entered_from : (Clause → Bool) → List Entered → List Entered
entered_from holds [] = []
entered_from holds (e ∷ entered) = if holds e.clause then e ∷ entered else entered_from holds entered

-- the frame at a place to which a `leave` leads
abbrev pub at_target : ℕ → Frame → Frame
at_target place frame = record frame { place = place; entered = entered_from (is_handled place) frame.entered }

-- runs the handlers of these clauses, the first first, and then goes on at a place
abbrev pub goes_through : WordState → List Clause → ℕ → Frame → List Frame → Streams → Run WordState WordCause
goes_through state (clause ∷ rest) place frame below streams =
    Running (record state { frames = in_handler clause rest (ToPlace place) frame ∷ below }) streams
goes_through state [] place frame below streams =
    Running (record state { frames = at_target place frame ∷ below }) streams

-- `leave`: by way of the finally handlers of the clauses whose try ranges it leaves
abbrev pub leaves : Here → ℕ → Streams → Run WordState WordCause
leaves here place streams =
    goes_through here.state
    (filter (λ clause. is_finally clause.kind && not (is_tried place clause)) (tried_in here.program here.frame))
    place here.frame here.below streams

-- goes on to a goal with the handlers of these clauses
abbrev pub goes_on_to : Goal → List Clause → WordState → Frame → List Frame → Streams → Run WordState WordCause
goes_on_to (ToPlace place) rest state frame below streams = goes_through state rest place frame below streams
goes_on_to (ToCatch caught) rest state frame below streams =
    Running (record state { frames = frame ∷ below; under_way = AnUnwind caught rest }) streams

abbrev pub goes_on_for : Purpose → WordState → Frame → List Frame → Streams → Run WordState WordCause
goes_on_for (ForObject object) state frame below streams = no_step streams
goes_on_for (OnTheWay rest goal) state frame below streams = goes_on_to goal rest state frame below streams

-- the end of the finally or fault handler that was entered last
abbrev pub finishes_first : List Entered → Here → Streams → Run WordState WordCause
finishes_first [] here streams = no_step streams
finishes_first (done ∷ others) here streams =
    goes_on_for done.purpose here.state (record here.frame { entered = others }) here.below streams

abbrev pub finishes : Here → Streams → Run WordState WordCause
finishes here streams = finishes_first here.frame.entered here streams

-- whether a place lies in a handler, behind its begin
abbrev pub is_within : ℕ → Clause → Bool
is_within place clause = nat_lt clause.handler_begin place && nat_lt place clause.handler_end

-- The frame at the begin of a catch handler, with its object. The handlers that this leaves are done, with what they
-- were entered for.
abbrev pub in_catch : Clause → ℕ → Frame → Frame
in_catch clause object frame =
    record frame {
      place = clause.handler_begin;
      entered = record { clause = clause; purpose = ForObject object }
          ∷ entered_from (is_within clause.handler_begin) frame.entered;
    }

abbrev pub enters_catch : WordProgram → WordState → Caught → Frame → List Frame → Streams
    → Run WordState WordCause
enters_catch program state caught frame below streams =
    let clause = caught.by.clause in
    with (program.body_of frame.item) streams (λ body.
    with (option_and_then (λ place. with_cells state.memory place (cells_of 8 caught.object))
    (place_in_frame body frame.address (word clause.object_slot))) streams (λ memory.
    Running (record state {
      frames = in_catch clause caught.object frame ∷ below;
      memory = memory;
      under_way = AnOperation;
    }) streams))

abbrev pub object_of : Purpose → Option ℕ
object_of (ForObject object) = Some object
object_of (OnTheWay rest goal) = None

-- the object of the catch handler that was entered last of those that hold a place
abbrev pub caught_at : ℕ → List Entered → Option ℕ
caught_at place [] = None
caught_at place (e ∷ entered) =
    option_or (if is_handled place e.clause then object_of e.purpose else None) (caught_at place entered)

-- `rethrow`: ECMA-335 III.4.24
abbrev pub rethrows : Here → Streams → Run WordState WordCause
rethrows here streams =
    with (caught_at here.frame.place here.frame.entered) streams (λ object. raises here object streams)

abbrev pub one_less_above : Caught → Caught
one_less_above caught =
    record { object = caught.object; by = record caught.by { above = caught.by.above - 1 } }

-- the innermost frame is dropped, with what it still had to do
abbrev pub drops_frame : WordProgram → WordState → Caught → Frame → List Frame → Streams → Run WordState WordCause
drops_frame program state caught frame below streams =
    with (program.body_of frame.item) streams (λ body.
    unwinds_to program
    (record state { frames = below; memory = without_frame body frame.address state.memory })
    (one_less_above caught) streams)

-- A step of an unwind: it enters a finally or fault handler of the innermost frame, or the catch handler, or drops the
-- frame.
abbrev pub unwinds_from : WordProgram → WordState → Caught → List Clause → List Frame → Streams
    → Run WordState WordCause
unwinds_from program state caught rest [] streams = no_step streams
unwinds_from program state caught (clause ∷ rest) (frame ∷ below) streams =
    Running
    (record state { frames = in_handler clause rest (ToCatch caught) frame ∷ below; under_way = AnOperation }) streams
unwinds_from program state caught [] (frame ∷ below) streams =
    if caught.by.above == 0 then enters_catch program state caught frame below streams
    else drops_frame program state caught frame below streams

abbrev pub unwinds : WordProgram → WordState → Caught → List Clause → Streams → Run WordState WordCause
unwinds program state caught rest streams = unwinds_from program state caught rest state.frames streams
