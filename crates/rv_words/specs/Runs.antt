-- The one simulation, of each step and of whole runs.
use Rattle.std.specs.Prelude.{ℕ, ◌<◌, ◌≤◌, List, All}
use Rattle.num_core.specs.Run.{Streams}
use Rattle.rv_step.specs.Machine.{MachineState, machine_run}
use Rattle.lir_core.specs.Calls.{Given}
use Rattle.lir_core.specs.State.{WordState}
use Rattle.lir_core.specs.Step.{word_run}
use Rattle.lir_core.specs.declared.body.LirBody.{LirBody}
use Rattle.rt_code.specs.Effects.{Front, Root}
use Rattle.rv_words.specs.Loaded.{IsLoaded}
use Rattle.rv_words.specs.Placing.{Placing}
use Rattle.rv_words.specs.Stands.{AreBytes, FollowsStep, KeepsStepWith, Related, Stands}
use Rattle.rv_words.specs.Steps.{in_begin}

-- The machine that a loaded image begins with comes to where the program begins: at the first operation of the first
-- body, or at the end, where that body's frame doesn't fit.
pub record Arrives (placing : Placing) (item : ℕ) (given : List Given) (input : List ℕ) (m : MachineState)
    : Type 0 where
  pub count : ℕ
  pub few : count ≤ in_begin
  pub related : Related placing (word_run placing.program item given input 0) (machine_run m input count)

abbrev pub IsBegun : Placing → Type 0
IsBegun placing =
    (front : Front) (root : Root) (item : ℕ) (body : LirBody) (given : List Given) (m : MachineState)
    (input : List ℕ) → IsLoaded placing front root item body given m → All (λ byte. byte < 256) input
    → Arrives placing item given input m

-- each step of a program whose operation the machine stands at
abbrev pub OneStep : Placing → Type 0
OneStep placing =
    (state : WordState) (m : MachineState) (streams : Streams) → Stands placing state m → AreBytes streams
    → FollowsStep placing state m streams

-- and whole runs of it
abbrev pub WholeRuns : Placing → Type 0
WholeRuns placing =
    (front : Front) (root : Root) (item : ℕ) (body : LirBody) (given : List Given) (m : MachineState)
    (input : List ℕ) → IsLoaded placing front root item body given m → All (λ byte. byte < 256) input
    → KeepsStepWith placing item given input m
