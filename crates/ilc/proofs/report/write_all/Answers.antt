use Rattle.std.proofs.Common.{arith}
use Rattle.ilc.proofs.Printing.{on_err, front_taken, adds_next}
use Rattle.ilc.proofs.report.write_all.Goals as goal

pub returns-in_err-at-clause-broken_off : goal.returns-in_err-at-clause-broken_off
returns-in_err-at-clause-broken_off g c =
    on_err c.from_residual.result (front_taken c.loop-at.at c.args.bytes.now _ _ _ c.loop-at.invariant.written
    c.in_err-at.ensures.refused)

pub loop-at-preserved : goal.loop-at-preserved
loop-at-preserved g c =
    record {
      within = c.in_ok-at.ensures.some.1;
      written = adds_next c.loop-at.at c.in_ok-at.field-0 c.args.bytes.now _ _ _ c.loop-at.invariant.written
          c.in_ok-at.ensures.added;
      faults_kept = omega (arith, c.loop-at.invariant.faults_kept, c.in_ok-at.ensures.faults_kept);
    }
