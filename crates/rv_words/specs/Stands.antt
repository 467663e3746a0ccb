-- When a machine stands where a program at the word level does, and what the one simulation says.
use Rattle.std.specs.Prelude.{◌≡◌, ℕ, ◌+◌, ◌*◌, ◌<◌, ◌≤◌, Bool, true, false, ◌&&◌, ◌||◌, nat_le, nat_lt, List, []}
use Rattle.std.specs.Prelude.{◌∷◌, length, All, Option, Some, None}
use Rattle.std.specs.List.{list_any}
use Rattle.num_core.specs.Run.{KeepsStep, Run, Running, Ended, Stopped, Streams, after}
use Rattle.num_core.specs.declared.fix.FixKind.TheVariants.{Routine}
use Rattle.rv_step.specs.Machine.{MachineState, machine_run, machine_step, register}
use Rattle.rv_step.specs.Memory.{Number}
use Rattle.rv_step.specs.declared.trap.Trap.{Trap}
use Rattle.lir_core.specs.Calls.{Given, lowest}
use Rattle.lir_core.specs.Layout.{FramesFit}
use Rattle.lir_core.specs.Memory.{is_own}
use Rattle.lir_core.specs.Program.{WordProgram}
use Rattle.lir_core.specs.Slots.{is_of_frame}
use Rattle.lir_core.specs.State.{ASearch, AnOperation, Frame, WordCause, WordState}
use Rattle.lir_core.specs.Step.{word_run, word_step}
use Rattle.lir_core.specs.Tells.{TellsNoMore}
use Rattle.lir_core.specs.declared.body.LirBody.{LirBody}
use Rattle.lir_core.specs.declared.op.LirOp.{LirOp}
use Rattle.rt_code.specs.Conventions.{frame_address}
use Rattle.rt_code.specs.Effects.{number_of}
use Rattle.rt_code.specs.declared.routines.Routine.TheVariants.{Start, Unhandled}
use Rattle.rv_gen.specs.Placing.{code_of}
use Rattle.rv_words.specs.Placing.{Placing, Serves}
use Rattle.rv_words.specs.Steps.{in_begin, most_of_run, operation_of, stays_in_body}
use Rattle.rv_words.specs.Words.{words}

-- ---- what a state at the word level has of its own

-- the place is that of a slot of a frame
abbrev pub is_of_body : Option LirBody → ℕ → ℕ → Bool
is_of_body None address place = false
is_of_body (Some body) address place = is_of_frame body address place

abbrev pub is_of : WordProgram → ℕ → Frame → Bool
is_of program place frame = is_of_body (program.body_of frame.item) frame.address place

-- the place is one of the image, of the part of the heap that is used, or of a frame
abbrev pub may_be_own : WordProgram → WordState → ℕ → Bool
may_be_own program state place =
    is_own (program.image place)
    || (nat_le program.heap_begin place && nat_lt place (program.heap_begin + state.heap_used))
    || list_any (is_of program place) state.frames

-- The frames lie one behind the other up to the stack's end, the heap is within its bound, and there is nothing in
-- memory but the image, what is used of the heap, and the frames' slots.
pub record IsInBounds (program : WordProgram) (state : WordState) : Type 0 where
  pub frames : FramesFit program state.frames
  pub heap : state.heap_used ≤ program.heap_bound
  pub memory : (place : ℕ) → is_own (state.memory place) ≡ true → may_be_own program state place ≡ true

-- ---- the relation

-- the address of the outermost frame, of one or more
abbrev pub outermost : ℕ → List Frame → ℕ
outermost address [] = address
outermost address (frame ∷ below) = outermost frame.address below

-- The outermost frame goes on in the code of `start`, behind its call of the first body.
abbrev pub ReturnsToStart : Placing → WordState → MachineState → Type 0
ReturnsToStart placing state m =
    (address : ℕ) → placing.program.address_of Routine (number_of Start) ≡ Some address
    → Number m (outermost (lowest placing.program state.frames) state.frames) 8 (address + 64)

-- A machine stands where a program does: it holds a state that tells no less.
pub record Stands (placing : Placing) (state : WordState) (m : MachineState) : Type 0 where
  pub tells : TellsNoMore state (words placing m)
  pub serves : Serves placing m
  pub bounds : IsInBounds placing.program state
  pub start : ReturnsToStart placing state m

-- A machine is about to write the line of an object that nothing catches, and to end.
pub record IsUnhandled (placing : Placing) (state : WordState) (m : MachineState) : Type 0 where
  pub serves : Serves placing m
  pub pc : placing.program.address_of Routine (number_of Unhandled) ≡ Some m.pc
  pub frame : register m frame_address ≡ lowest placing.program state.frames
  pub bounds : IsInBounds placing.program state

-- what is left to read is bytes
abbrev pub AreBytes : Streams → Type 0
AreBytes streams = All (λ byte. byte < 256) streams.input

-- Runs that belong together. Where no body has clauses a search finds nothing. Of a run that can't go on nothing is
-- said.
pub data Related (placing : Placing) : Run WordState WordCause → Run MachineState Trap → Type 0 where
  AtOperation : (state : WordState) (m : MachineState) (streams : Streams) → Stands placing state m → AreBytes streams
      → Related placing (Running state streams) (Running m streams)
  InSearch : (state : WordState) (m : MachineState) (streams : Streams) (object : ℕ)
      → state.under_way ≡ ASearch object [] → IsUnhandled placing state m
      → Related placing (Running state streams) (Running m streams)
  AtEnd : (status : ℕ) (streams : Streams) → Related placing (Ended status streams) (Ended status streams)
  AtNoStep : (cause : WordCause) (streams : Streams) (run : Run MachineState Trap)
      → Related placing (Stopped cause streams) run

-- ---- one step

-- each of so many steps fetches its instruction from so many bytes of code from an address on
pub record FetchesAt (begin bytes : ℕ) (run : Run MachineState Trap) : Type 0 where
  pub m : MachineState
  pub streams : Streams
  pub runs : run ≡ Running m streams
  pub above : begin ≤ m.pc
  pub below : m.pc < begin + bytes

abbrev pub FetchesFrom : ℕ → ℕ → ℕ → MachineState → Streams → Type 0
FetchesFrom begin bytes count m streams =
    (j : ℕ) → j < count → FetchesAt begin bytes (after machine_step j (Running m streams))

-- In one or more steps, and at most so many, the machine comes to where the program does in its next one.
pub record Follows (placing : Placing) (most : ℕ) (m : MachineState) (streams : Streams)
    (next : Run WordState WordCause) : Type 0 where
  pub count : ℕ
  pub some : 0 < count
  pub few : count ≤ most
  pub related : Related placing next (after machine_step count (Running m streams))

-- and each of them fetches its instruction from the code of the innermost frame's body
pub record FollowsInBody (placing : Placing) (begin : ℕ) (body : LirBody) (most : ℕ) (m : MachineState)
    (streams : Streams) (next : Run WordState WordCause) : Type 0 where
  pub follows : Follows placing most m streams next
  pub fetches : FetchesFrom begin (4 * length (code_of body)) follows.count m streams

-- the run is at an instruction of the code of an item's body
abbrev pub FetchesIn : Placing → ℕ → Run MachineState Trap → Type 0
FetchesIn placing item run =
    (begin : ℕ) × (body : LirBody) × (placing.program.item_at begin ≡ Some item)
    × (placing.program.body_of item ≡ Some body) × FetchesAt begin (4 * length (code_of body)) run

-- Where the program does an operation that stays in its body, the machine is at an instruction of that body.
abbrev pub FetchesFor : Placing → Run WordState WordCause → Run MachineState Trap → Type 0
FetchesFor placing (Running state streams) run =
    (frame : Frame) (below : List Frame) (op : LirOp) → state.frames ≡ frame ∷ below → state.under_way ≡ AnOperation
    → operation_of placing.program state.frames ≡ Some op → stays_in_body op ≡ true
    → FetchesIn placing frame.item run
FetchesFor placing (Ended status streams) run = Unit {0}
FetchesFor placing (Stopped cause streams) run = Unit {0}

-- The one simulation, of a step: the machine follows the program, in at most so many steps as the table says of the
-- operation, and in none of them leaves the body's code for an operation that stays in it.
pub record FollowsStep (placing : Placing) (state : WordState) (m : MachineState) (streams : Streams) : Type 0 where
  pub follows : Follows placing (most_of_run placing.program (Running state streams)) m streams
      (word_step placing.program state streams)
  pub fetches : (j : ℕ) → j < follows.count
      → FetchesFor placing (Running state streams) (after machine_step j (Running m streams))

-- ---- whole runs

-- The one simulation, of whole runs. A machine keeps step with a program: at each moment it stands where the program
-- does, or both have ended alike. The first moment lies at most so many steps behind the begin of `start`, and the
-- moments rise, by at most so many steps as the table says. From one to the next the machine fetches its instructions
-- from the body's code for an operation that stays in it.
pub record KeepsStepWith (placing : Placing) (item : ℕ) (given : List Given) (input : List ℕ) (m : MachineState)
    : Type 0 where
  pub keeps : KeepsStep (λ _. Related placing)
      (λ i. most_of_run placing.program (word_run placing.program item given input i))
      (word_run placing.program item given input) (machine_run m input)
  pub begins : keeps.moment 0 ≤ in_begin
  pub fetches : (i j : ℕ) → keeps.moment i ≤ j → j < keeps.moment (i + 1)
      → FetchesFor placing (word_run placing.program item given input i) (machine_run m input j)
