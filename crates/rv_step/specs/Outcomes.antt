-- How runs of a machine come out: what its steps did, and what the outside has of it.
use Rattle.std.specs.Prelude.{◌≡◌, ◌≢◌, ◌⊎◌, ℕ, ◌+◌, ◌<◌, ◌≤◌, List, [], ◌++◌, length, take, drop, Option, Some}
use Rattle.ilc_io.specs.Count.{next_count}
use Rattle.num_core.specs.Run.{Run, Running, Ended, Stopped, Streams, Outside, Passes}
use Rattle.rv_isa.specs.declared.ins.Ins.TheVariants.{Ecall}
use Rattle.rv_isa.specs.Parts.{parts_of}
use Rattle.rv_isa.specs.Rows.{instruction}
use Rattle.rv_step.specs.Machine.{MachineState, machine_step, machine_run, fetched, register, request}
use Rattle.rv_step.specs.declared.calls.Request.{Request}
use Rattle.rv_step.specs.declared.calls.Request.TheVariants.{ReadInput, WriteOutput, WriteError}
use Rattle.rv_step.specs.declared.trap.Trap.{Trap}

-- what a source has left, and what the sinks for output and error text hold, where they tell it
abbrev pub outside : Option (List ℕ) → Option (List ℕ) → Option (List ℕ) → Outside
outside rest output error = record { rest = rest; output = output; error = error }

-- after so many steps the run goes on, from the machine `new`
pub record GoesOn (old : MachineState) (steps : ℕ) (new : MachineState) (before now : Outside) : Type 0 where
  pub given : List ℕ
  pub streams : Streams
  pub running : machine_run old given steps ≡ Running new streams
  pub passes : Passes given streams before now

-- After so many steps the run has ended, and not before: a step earlier it went on, from the machine `new`.
pub record EndsAfter (old : MachineState) (steps status : ℕ) (new : MachineState) (before now : Outside)
    : Type 0 where
  pub given : List ℕ
  pub streams : Streams
  pub done : ℕ
  pub last : steps ≡ done + 1
  pub running : machine_run old given done ≡ Running new streams
  pub ended : machine_run old given steps ≡ Ended status streams
  pub passes : Passes given streams before now

-- one of the steps can't be done, and `new` is the machine before it
pub record TrapsWithin (old : MachineState) (steps : ℕ) (trap : Trap) (new : MachineState)
    (before now : Outside) : Type 0 where
  pub given : List ℕ
  pub streams : Streams
  pub done : ℕ
  pub within : done < steps
  pub running : machine_run old given done ≡ Running new streams
  pub stopped : machine_run old given (done + 1) ≡ Stopped trap streams
  pub passes : Passes given streams before now

-- a call of the environment asks for this now, for more than no bytes
abbrev pub Requests : MachineState → Request → Type 0
Requests m asked = (request (register m 17) (register m 10) ≡ asked) × (register m 12 ≢ 0)

-- the instruction at the pc is a call of the environment that asks for this
pub record Asks (m : MachineState) (asked : Request) : Type 0 where
  pub word : ℕ
  pub fetches : fetched m ≡ Some word
  pub calls : instruction (parts_of word) ≡ Some Ecall
  pub requests : Requests m asked

-- The sink that was asked to write has counted one fault more, and the other has none.
abbrev pub SinkCounts : (Request → Type 0) → ℕ → ℕ → ℕ → ℕ → Type 0
SinkCounts asks output output' error error' =
    (asks WriteOutput × (output' ≡ next_count output) × (error' ≡ error))
    ⊎ (asks WriteError × (error' ≡ next_count error) × (output' ≡ output))

-- One of the steps asked to read, and the source refused. All that the steps before it wrote has been written. Of
-- the input that they left that step took the first bytes at most, fewer than it asks for, and `new` is the machine
-- before it with the memory that it leaves where there is no more than these to read.
pub record ReadFailsWithin (old : MachineState) (steps : ℕ) (new : MachineState) (before now : Outside) : Type 0 where
  pub given : List ℕ
  pub streams : Streams
  pub done : ℕ
  pub within : done < steps
  pub machine : MachineState
  pub running : machine_run old given done ≡ Running machine streams
  pub asks : Asks machine ReadInput
  pub took : ℕ
  pub there : took ≤ length streams.input
  pub missing : took < register machine 12
  pub next : MachineState
  pub goes_on : machine_step machine (record streams { input = take took streams.input })
      ≡ Running next (record streams { input = [] })
  pub same : new ≡ record machine { segments = next.segments }
  pub passes : Passes given (record streams { input = drop took streams.input }) before now

abbrev pub Continues : List ℕ → List ℕ → Type 0
Continues bytes longer = (more : List ℕ) × (longer ≡ bytes ++ more)

-- One of the steps asked to write, and the sink refused. What was written lies between what the run had written
-- before that step and what it would have written after it, of which some is missing, and `new` is the machine
-- before it.
pub record WriteFailsWithin (old : MachineState) (steps : ℕ) (new : MachineState) (before now : Outside) : Type 0 where
  pub given : List ℕ
  pub streams : Streams
  pub done : ℕ
  pub within : done < steps
  pub running : machine_run old given done ≡ Running new streams
  pub asks : Asks new WriteOutput ⊎ Asks new WriteError
  pub next : MachineState
  pub whole : Streams
  pub goes_on : machine_run old given (done + 1) ≡ Running next whole
  pub got : Streams
  pub output : Continues streams.output got.output × Continues got.output whole.output
  pub error : Continues streams.error got.error × Continues got.error whole.error
  pub missing : length got.output + length got.error < length whole.output + length whole.error
  pub passes : Passes given got before now
