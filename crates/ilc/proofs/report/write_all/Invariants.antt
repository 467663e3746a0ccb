use Rattle.std.proofs.Common.{◌-◌, ◌≤◌, take, length}
use Rattle.ilc.specs.Printed.{Adds}
use Rattle.ilc.proofs.report.write_all.Given as goal

abbrev pub invariant-loop-at : goal.invariant-loop-at
invariant-loop-at g l = record {
  within : l.at ≤ length l.bytes;
  written : Adds (take l.at l.bytes) (g.S.Sink.written l.fn.sink) (g.S.Sink.written l.sink);
  faults_kept : g.S.Sink.faults l.fn.sink ≤ g.S.Sink.faults l.sink;
}

abbrev pub decreases-loop-at : goal.decreases-loop-at
decreases-loop-at g l = length l.bytes - l.at
