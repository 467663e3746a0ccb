-- What one step of the machine does in the midst of a run, where the input isn't yet known beyond what was read.
use Rattle.std.specs.Prelude.{◌≡◌, ℕ, ◌+◌, ◌<◌, Bool, true, List, [], ◌++◌, length, drop, Option, None, Some, Result}
use Rattle.std.specs.Prelude.{Ok, Err, IfSome, IfErr, OnOk, OnErr}
use Rattle.std.specs.Option.{option_map}
use Rattle.num_core.specs.Run.{Run, Running, Ended, Stopped, Streams, Outside}
use Rattle.rv_step.specs.Machine.{MachineState, register, traps, overwritten, bytes_at, with_bytes_at}
use Rattle.rv_step.specs.Outcomes.{Continues}
use Rattle.rv_step.specs.declared.segment.Segment.{Segment}
use Rattle.rv_step.specs.declared.trap.Trap.{Trap}
use Rattle.rv_step.specs.declared.trap.Cause.{Cause}
use Rattle.rv_step.specs.declared.fault.StepFault.{StepFault}
use Rattle.rv_step.specs.declared.fault.RunFault.{RunFault}
use Rattle.rv_step.specs.declared.fault.RunFault.TheVariants.{Trap as RunTrapped, ReadFault as RunReadFault}
use Rattle.rv_step.specs.declared.fault.RunFault.TheVariants.{WriteFault as RunWriteFault}
use Rattle.rv_step.specs.declared.fault.StepFault.TheVariants.{Trap as Trapped, ReadFault, WriteFault}

-- what was taken from the outside and written to it
pub record Exchange : Type 0 where
  pub taken : List ℕ
  pub output : List ℕ
  pub error : List ℕ

abbrev pub nothing : Exchange
nothing = record { taken = []; output = []; error = [] }

-- what the outside told before and tells now differs by the exchange
pub record Exchanges (x : Exchange) (before now : Outside) : Type 0 where
  pub taken : before.rest ≡ option_map (λ rest. x.taken ++ rest) now.rest
  pub output : now.output ≡ option_map (λ bytes. bytes ++ x.output) before.output
  pub error : now.error ≡ option_map (λ bytes. bytes ++ x.error) before.error

-- once the source has said that it is at its end, it has nothing left
abbrev pub EndIsTrue : Bool → Outside → Type 0
EndIsTrue at_end now = at_end ≡ true → IfSome now.rest (λ rest. rest ≡ [])

-- the streams around an exchange, with `more` left to read behind it
abbrev pub streams_before : Exchange → List ℕ → List ℕ → List ℕ → Streams
streams_before x more output error = record { input = x.taken ++ more; output = output; error = error }

abbrev pub streams_after : Exchange → List ℕ → List ℕ → List ℕ → Streams
streams_after x more output error = record { input = more; output = output ++ x.output; error = error ++ x.error }

-- An instruction that calls nothing outside was done, and `new` is the machine behind it, or can't be done.
pub record Does (step : Streams → Run MachineState Trap) (result : Result Unit Cause)
    (old new : MachineState) : Type 0 where
  pub done : OnOk result ((streams : Streams) → step streams ≡ Running new streams)
  pub refused : IfErr result (λ cause. (streams : Streams) → step streams ≡ traps old cause streams)
  pub same : OnErr result (new ≡ old)

-- A step leads to the machine `new` by an exchange, whatever input comes behind it; at the end nothing comes.
abbrev pub Leads : (Streams → Run MachineState Trap) → Exchange → Bool → MachineState → Type 0
Leads step x at_end new =
    (more output error : List ℕ) → (at_end ≡ true → more ≡ [])
    → step (streams_before x more output error) ≡ Running new (streams_after x more output error)

-- `ended` and `at_end` say whether the source has said that it is at its end, before and after the step.
pub record StepsOn (step : Streams → Run MachineState Trap) (ended at_end : Bool) (new : MachineState)
    (before now : Outside) : Type 0 where
  pub x : Exchange
  pub leads : Leads step x at_end new
  pub exchanged : Exchanges x before now
  pub stays_ended : ended ≡ true → at_end ≡ true
  pub takes_nothing : ended ≡ true → x.taken ≡ []
  pub end_is_true : EndIsTrue at_end now

pub record StepEnds (step : Streams → Run MachineState Trap) (status : ℕ) (old new : MachineState)
    (before now : Outside) : Type 0 where
  pub ends : (streams : Streams) → step streams ≡ Ended status streams
  pub same_machine : new ≡ old
  pub same : now ≡ before

pub record StepTraps (step : Streams → Run MachineState Trap) (trap : Trap) (old new : MachineState)
    (before now : Outside) : Type 0 where
  pub stops : (streams : Streams) → step streams ≡ Stopped trap streams
  pub same_machine : new ≡ old
  pub same : now ≡ before

-- the bytes `taken` were read, as the step reads them where there are no more, and not all that it asks for
pub record ReadBreaksOff (step : Streams → Run MachineState Trap) (ended : Bool) (old new : MachineState)
    (before now : Outside) : Type 0 where
  pub taken : List ℕ
  pub next : MachineState
  pub leads : (streams : Streams) → step (record streams { input = taken })
      ≡ Running next (record streams { input = [] })
  pub same : new ≡ record old { segments = next.segments }
  pub missing : length taken < register old 12
  pub not_ended : ended ≡ true → ⊥
  pub exchanged : Exchanges (record nothing { taken = taken }) before now

-- the first of the bytes that the step writes were written, and not all
pub record WriteBreaksOff (step : Streams → Run MachineState Trap) (old new : MachineState)
    (before now : Outside) : Type 0 where
  pub same_machine : new ≡ old
  pub next : MachineState
  pub output : List ℕ
  pub error : List ℕ
  pub leads : (streams : Streams) → step streams
      ≡ Running next (record streams { output = streams.output ++ output; error = streams.error ++ error })
  pub got_output : List ℕ
  pub got_error : List ℕ
  pub output_begun : Continues got_output output
  pub error_begun : Continues got_error error
  pub missing : length got_output + length got_error < length output + length error
  pub exchanged : Exchanges (record { taken = []; output = got_output; error = got_error }) before now

-- what a step's answer says of it
abbrev pub StepAnswers : (Streams → Run MachineState Trap) → Result (Option ℕ) StepFault → Bool → Bool → MachineState
    → MachineState → Outside → Outside → Type 0
StepAnswers step (Ok None) ended at_end old new before now = StepsOn step ended at_end new before now
StepAnswers step (Ok (Some status)) ended at_end old new before now = StepEnds step status old new before now
StepAnswers step (Err (Trapped trap)) ended at_end old new before now = StepTraps step trap old new before now
StepAnswers step (Err ReadFault) ended at_end old new before now = ReadBreaksOff step ended old new before now
StepAnswers step (Err WriteFault) ended at_end old new before now = WriteBreaksOff step old new before now

-- what a fault of a step is called where a run was asked for
abbrev pub run_fault : StepFault → RunFault
run_fault (Trapped trap) = RunTrapped trap
run_fault ReadFault = RunReadFault
run_fault WriteFault = RunWriteFault

-- ---- reading and writing

-- all of the bytes were written, or the first of them and not all
abbrev pub Wrote : List ℕ → Option (List ℕ) → Option (List ℕ) → Type 0
Wrote bytes before now = now ≡ option_map (λ written. written ++ bytes) before

pub record WroteSome (bytes : List ℕ) (before now : Option (List ℕ)) : Type 0 where
  pub got : List ℕ
  pub begun : Continues got bytes
  pub missing : length got < length bytes
  pub wrote : Wrote got before now

-- From a source the bytes `taken` were taken, where `before` and `now` are what it tells.
pub record Takes (taken : List ℕ) (ended at_end : Bool) (before now : Option (List ℕ)) : Type 0 where
  pub exchanged : before ≡ option_map (λ rest. taken ++ rest) now
  pub stays_ended : ended ≡ true → at_end ≡ true
  pub takes_nothing : ended ≡ true → taken ≡ []
  pub end_is_true : at_end ≡ true → IfSome now (λ rest. rest ≡ [])

-- so many bytes were read to a place
pub record FilledBytes (got from : ℕ) (old new : List ℕ) (ended at_end : Bool)
    (before now : Option (List ℕ)) : Type 0 where
  pub taken : List ℕ
  pub so_many : length taken ≡ got
  pub bytes : new ≡ overwritten from taken old
  pub takes : Takes taken ended at_end before now

-- so many bytes were read to an address, into a buffer of `count` bytes
pub record FilledSegments (got address count : ℕ) (old new : List Segment) (ended at_end : Bool)
    (before now : Option (List ℕ)) : Type 0 where
  pub taken : List ℕ
  pub so_many : length taken ≡ got
  pub buffer : List ℕ
  pub there : bytes_at (λ s. s.write) address count old ≡ Some buffer
  pub size : length buffer ≡ count
  pub written : with_bytes_at (λ s. s.write) address (taken ++ drop got buffer) old ≡ Some new
  pub takes : Takes taken ended at_end before now
