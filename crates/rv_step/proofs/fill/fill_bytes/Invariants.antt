use Rattle.std.proofs.Common.{◌-◌, ◌+◌, ◌≤◌, ◌≡◌, cond, length}
use Rattle.rv_step.specs.Steps.{FilledBytes}
use Rattle.rv_step.proofs.fill.fill_bytes.Given as goal

abbrev pub invariant-loop-at : goal.invariant-loop-at
invariant-loop-at g l =
    let source = g.I.Source in
    record {
      rising : l.from ≤ l.at;
      within : l.at ≤ l.end;
      room : l.end ≤ length l.bytes;
      filled : FilledBytes (l.at - l.from) l.from l.fn.bytes l.bytes l.fn.at_end l.at_end (source.rest l.fn.input)
          (source.rest l.input);
      faults : source.faults l.input ≡ source.faults l.fn.input;
    }

abbrev pub decreases-loop-at : goal.decreases-loop-at
decreases-loop-at g l = l.end - l.at + cond l.at_end 0 1
