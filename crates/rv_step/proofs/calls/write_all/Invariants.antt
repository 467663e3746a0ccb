use Rattle.std.proofs.Common.{◌-◌, ◌≤◌, ◌≡◌, length, take}
use Rattle.rv_step.specs.Steps.{Wrote}
use Rattle.rv_step.proofs.calls.write_all.Given as goal

abbrev pub invariant-loop-done : goal.invariant-loop-done
invariant-loop-done g l =
    let sink = g.S.Sink in
    record {
      within : l.done ≤ length l.bytes;
      wrote : Wrote (take l.done l.bytes) (sink.written l.fn.sink) (sink.written l.sink);
      faults : sink.faults l.sink ≡ sink.faults l.fn.sink;
    }

abbrev pub decreases-loop-done : goal.decreases-loop-done
decreases-loop-done g l = length l.bytes - l.done
