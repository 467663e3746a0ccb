-- Searches, unwinding and handlers: ECMA-335 I.12.4.2.5 to I.12.4.2.8, III.3.35, III.3.46, III.4.24. Where no catch
-- is found no handler runs.
use Rattle.std.specs.Prelude.{ℕ, ◌+◌, ◌-◌, ◌==◌, ◌&&◌, ◌||◌, nat_lt, nat_le, Bool, true, false, not, List, [], ◌∷◌}
use Rattle.std.specs.Prelude.{filter, find, length, map, slice_get, if◌then◌else◌, Option}
use Rattle.std.specs.Prelude.{Some, None}
use Rattle.std.specs.List.{enumerate_from}
use Rattle.std.specs.Option.{option_map, option_map_or, option_and_then}
use Rattle.il_code.specs.declared.body.Clause.{Clause}
use Rattle.il_code.specs.declared.body.ClauseKind.{ClauseKind}
use Rattle.il_code.specs.declared.body.ClauseKind.TheVariants.{Catch, Filter, Finally, Fault}
use Rattle.il_code.specs.Reach.{tries}
use Rattle.ty_terms.specs.declared.ty.Ty.{Ty}
use Rattle.ty_names.specs.Modules.{World}
use Rattle.il_verify.specs.Ranges.{handler_range, holds, is_finally_kind}
use Rattle.il_verify.specs.Scope.{type_token}
use Rattle.cil_world.specs.Entering.{Entry, entry_of_running}
use Rattle.cil_world.specs.ObjectSteps.{fits_type, is_exception, type_of_object}
use Rattle.cil_world.specs.State.{CilState, Frame, Running, Code, Initializes, Makes, Invokes, Goal, GoTo, CatchIn}
use Rattle.cil_world.specs.State.{Pending, Caught, Going, Searching, Unwinding, change_top, frame_at, frames_from}
use Rattle.cil_world.specs.State.{with_frames, with_phase, catches_at, triggers_at, waits_at}
use Rattle.cil_world.specs.Values.{Value, Reference}

-- ---- the clauses of a frame

-- what stands in a table of clauses, with its number
abbrev pub Numbered : Type 0
Numbered = ℕ × Clause

abbrev pub try_size : Numbered → ℕ
try_size clause = clause.1.try_end - clause.1.try_at

-- the inner ones first: of ranges that nest the smaller, of equal ones the earlier in the table
abbrev pub placed_inside : Numbered → List Numbered → List Numbered
placed_inside clause [] = clause ∷ []
placed_inside clause (first ∷ rest) =
    if nat_le (try_size clause) (try_size first) then clause ∷ first ∷ rest else first ∷ placed_inside clause rest

abbrev pub inner_first : List Numbered → List Numbered
inner_first [] = []
inner_first (clause ∷ rest) = placed_inside clause (inner_first rest)

abbrev pub clauses_with : ℕ → Entry → List Numbered
clauses_with offset found = inner_first (filter (λ clause. tries offset clause.1) (enumerate_from 0 found.body.clauses))

-- the clauses whose try range holds a frame's offset, the inner ones first
abbrev pub clauses_of : World → Frame → List Numbered
clauses_of world frame = option_map_or (clauses_with frame.offset) (entry_of_running world frame.runs) []

abbrev pub all_clauses : World → Frame → List Clause
all_clauses world frame = option_map_or (λ found. found.body.clauses) (entry_of_running world frame.runs) []

-- A stub has a catch of its own: that for an initializer while it waits for it, and the others also while an
-- initializer runs that their call triggers. What a stub raises itself it doesn't catch.
abbrev pub is_calling : ℕ → Bool
is_calling offset = offset == waits_at || offset == triggers_at

abbrev pub tests_of_running : Running → ℕ → ℕ → ℕ
tests_of_running (Code name) count offset = count
tests_of_running (Initializes ty resumes) count offset = if offset == waits_at then 1 else 0
tests_of_running (Makes ty) count offset = if is_calling offset then 1 else 0
tests_of_running (Invokes name) count offset = if is_calling offset then 1 else 0

-- how many tests a frame has for a search
abbrev pub tests_of : World → Frame → ℕ
tests_of world frame = tests_of_running frame.runs (length (clauses_of world frame)) frame.offset

-- ---- searches

-- the first test in these frames, the innermost frame first
abbrev pub first_test : World → List Frame → Option (ℕ × ℕ)
first_test world [] = None
first_test world (frame ∷ below) =
    if tests_of world frame == 0 then first_test world below else Some (length below, 0)

-- the test behind the n-th of the innermost of these frames
abbrev pub test_behind : World → List Frame → ℕ → Option (ℕ × ℕ)
test_behind world [] n = None
test_behind world (frame ∷ below) n =
    if nat_lt (n + 1) (tests_of world frame) then Some (length below, n + 1) else first_test world below

abbrev pub searches_at : Reference → CilState → Option (ℕ × ℕ) → Option CilState
searches_at object state None = None
searches_at object state (Some test) = Some (with_phase (Searching object test.0 test.1) state)

-- a search begins; nothing where no frame has a test
abbrev pub search_begun : World → Reference → CilState → Option CilState
search_begun world object state = searches_at object state (first_test world state.frames)

-- ---- what is found

abbrev pub catches_kind : World → CilState → Reference → Option Ty → ClauseKind → Bool
catches_kind world state object class Catch =
    option_map_or (λ ty. fits_type world ty (type_of_object world state object)) class false
catches_kind world state object class Filter = false
catches_kind world state object class Finally = false
catches_kind world state object class Fault = false

abbrev pub catches : World → CilState → Reference → Entry → Numbered → Bool
catches world state object found clause =
    catches_kind world state object (type_token found.scope clause.1.class) clause.1.kind

-- the stub of an initializer catches each Exception, and the others any object
abbrev pub caught_in : Running → Option ℕ → Bool → Option ℕ
caught_in (Code name) clause exception = clause
caught_in (Initializes ty resumes) clause true = Some 0
caught_in (Initializes ty resumes) clause false = None
caught_in (Makes ty) clause exception = Some 0
caught_in (Invokes name) clause exception = Some 0

-- the number of a clause that catches, if the n-th test of a frame is one
abbrev pub caught_by : World → CilState → Reference → Frame → ℕ → Option ℕ
caught_by world state object frame n = caught_in frame.runs
    (option_and_then (λ found. option_and_then (λ clause.
    if catches world state object found clause then Some clause.0 else None)
    (slice_get (clauses_with frame.offset found) n)) (entry_of_running world frame.runs))
    (is_exception world state object)

-- ---- unwinding

abbrev pub ends_exceptionally : Numbered → Bool
ends_exceptionally clause = is_finally_kind clause.1.kind

abbrev pub numbers_of : List Numbered → List ℕ
numbers_of clauses = map (λ clause. clause.0) clauses

abbrev pub before_clause : ℕ → List Numbered → List Numbered
before_clause clause [] = []
before_clause clause (first ∷ rest) = if first.0 == clause then [] else first ∷ before_clause clause rest

-- the handlers that the top frame runs before it is left, or before a clause of its own catches
abbrev pub handlers_in : World → ℕ → ℕ → List Frame → List ℕ
handlers_in world frame clause [] = []
handlers_in world frame clause (top ∷ below) =
    numbers_of (filter ends_exceptionally
    (if length below == frame then before_clause clause (clauses_of world top) else clauses_of world top))

abbrev pub unwinds : World → Reference → ℕ → ℕ → CilState → CilState
unwinds world object frame clause state =
    with_phase (Unwinding object frame clause (handlers_in world frame clause state.frames)) state

abbrev pub found_or_next : World → CilState → Reference → ℕ → ℕ → Option ℕ → Option CilState
found_or_next world state object frame n (Some clause) = Some (unwinds world object frame clause state)
found_or_next world state object frame n None =
    searches_at object state (test_behind world (frames_from state.frames frame) n)

-- one test; nothing where it fails and none is left
abbrev pub search_step : World → CilState → Reference → ℕ → ℕ → Option CilState
search_step world state object frame n =
    found_or_next world state object frame n
    (option_and_then (λ found. caught_by world state object found n) (frame_at state.frames frame))

-- ---- moves inside a frame

-- the handler of a clause holds an offset
abbrev pub has_in_handler : ℕ → Clause → Bool
has_in_handler offset clause = holds offset (handler_range clause)

abbrev pub handler_holds : List Clause → ℕ → ℕ → Bool
handler_holds clauses offset number = option_map_or (has_in_handler offset) (slice_get clauses number) false

-- on to an offset, with a stack; of what was caught that stays whose handler holds the offset
abbrev pub moved_to : World → ℕ → List Value → Frame → Frame
moved_to world offset stack frame =
    record frame {
      offset = offset;
      stack = stack;
      caught = filter (λ caught. handler_holds (all_clauses world frame) offset caught.clause) frame.caught;
      making = None;
    }

abbrev pub handler_at : World → Frame → ℕ → ℕ
handler_at world frame number =
    option_map_or (λ clause. clause.handler_at) (slice_get (all_clauses world frame) number) 0

abbrev pub with_pending : List Pending → Frame → Frame
with_pending pending frame = record frame { pending = pending }

-- into a finally or fault handler, for a goal, with the handlers that are left behind it
abbrev pub into_handler : World → ℕ → List ℕ → Goal → Frame → Frame
into_handler world handler left goal frame =
    with_pending (record { handler = handler; left = left; goal = goal } ∷ frame.pending)
    (moved_to world (handler_at world frame handler) [] frame)

-- an unwind or a `leave` whose handler doesn't hold the catch handler that is entered is dropped
abbrev pub kept_pending : World → Frame → ℕ → List Pending
kept_pending world frame offset =
    filter (λ pending. handler_holds (all_clauses world frame) offset pending.handler) frame.pending

abbrev pub with_caught : Caught → Frame → Frame
with_caught caught frame = record frame { caught = caught ∷ frame.caught }

-- into a catch handler, with what it caught
abbrev pub into_catch : World → ℕ → Reference → Frame → Frame
into_catch world clause object frame =
    let offset : ℕ = handler_at world frame clause in
    with_caught (record { clause = clause; object = object })
    (with_pending (kept_pending world frame offset) (moved_to world offset (Value.Object object ∷ []) frame))

abbrev pub into_stub : Reference → Frame → Frame
into_stub object frame = record frame { offset = catches_at; stack = Value.Object object ∷ [] }

abbrev pub entered : World → ℕ → Reference → Running → Frame → Frame
entered world clause object (Code name) frame = into_catch world clause object frame
entered world clause object (Initializes ty resumes) frame = into_stub object frame
entered world clause object (Makes ty) frame = into_stub object frame
entered world clause object (Invokes name) frame = into_stub object frame

-- ---- one step of an unwind: into a handler, or out of a frame, or into the catch

abbrev pub unwind_frames : World → CilState → Reference → ℕ → ℕ → List ℕ → List Frame → Option CilState
unwind_frames world state object frame clause left [] = None
unwind_frames world state object frame clause (handler ∷ left) (top ∷ below) =
    Some (with_phase Going
    (with_frames (into_handler world handler left (CatchIn object frame clause) top ∷ below) state))
unwind_frames world state object frame clause [] (top ∷ below) =
    if length below == frame
    then Some (with_phase Going (with_frames (entered world clause object top.runs top ∷ below) state))
    else Some (unwinds world object frame clause (with_frames below state))

abbrev pub unwind_step : World → CilState → Reference → ℕ → ℕ → List ℕ → Option CilState
unwind_step world state object frame clause left = unwind_frames world state object frame clause left state.frames

-- ---- `leave` and `endfinally`

abbrev pub is_left_through : ClauseKind → Bool
is_left_through Catch = false
is_left_through Filter = false
is_left_through Finally = true
is_left_through Fault = false

-- the finally handlers that `leave` to an offset runs; it passes fault handlers by
abbrev pub left_by : World → Frame → ℕ → List ℕ
left_by world frame target =
    numbers_of
    (filter (λ clause. is_left_through clause.1.kind && not (tries target clause.1)) (clauses_of world frame))

abbrev pub goes_on : World → List ℕ → ℕ → Frame → Frame
goes_on world [] target frame = moved_to world target [] frame
goes_on world (handler ∷ left) target frame = into_handler world handler left (GoTo target) frame

abbrev pub leave_step : World → Frame → ℕ → Frame
leave_step world frame target = goes_on world (left_by world frame target) target frame

abbrev pub ended_goal : World → Goal → List ℕ → List Pending → CilState → CilState
ended_goal world (GoTo target) left others state =
    change_top (λ frame. goes_on world left target (with_pending others frame)) state
ended_goal world (CatchIn object frame clause) left others state =
    with_phase (Unwinding object frame clause left) (change_top (with_pending others) state)

-- what a handler ran for goes on: a `leave` in this step, an unwind in the next
abbrev pub ended_for : World → Pending → List Pending → CilState → CilState
ended_for world pending others state = ended_goal world pending.goal pending.left others state

abbrev pub end_step : World → CilState → List Pending → Option CilState
end_step world state [] = None
end_step world state (pending ∷ others) = Some (ended_for world pending others state)

-- the object that the innermost catch handler which holds the offset has caught
abbrev pub rethrown : World → Frame → Option Reference
rethrown world frame =
    option_map (λ caught. caught.object)
    (find (λ caught. handler_holds (all_clauses world frame) frame.offset caught.clause) frame.caught)
