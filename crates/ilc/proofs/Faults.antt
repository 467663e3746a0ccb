-- From counts of faults that were raised by one to what an outcome says of them.
use Rattle.std.proofs.Common.{◌≡◌, ℕ, inl, inr, arith}
use Rattle.ilc_io.specs.Count.{next_count, HasRisen}
use Rattle.rv_step.specs.Machine.{MachineState}
use Rattle.rv_step.specs.Outcomes.{Asks, SinkCounts}
use Rattle.ilc.specs.Seen.{StreamsSeen}
use Rattle.ilc.specs.Cause.{SinkFails}

pub risen : (before now : ℕ) → now ≡ next_count before → HasRisen before now
risen before now e = omega (arith, e)

pub sink_fails : (m : MachineState) (before now : StreamsSeen)
    → SinkCounts (Asks m) before.output_faults now.output_faults before.error_faults now.error_faults
    → SinkFails m before now
sink_fails m before now (inl h) = inl (h.0, risen before.output_faults now.output_faults h.1)
sink_fails m before now (inr h) = inr (h.0, risen before.error_faults now.error_faults h.1)
