use Rattle.std.proofs.Common.{arith, refl, ap, ◌∙◌}
use Rattle.ilc_io.specs.Count.{next_count}
use Rattle.rv_step.proofs.Exchanges.{wrote_nothing, wrote_more, piece_within, wrote_some}
use Rattle.rv_step.proofs.calls.write_all.Goals as goal

pub loop-done-init : goal.loop-done-init
loop-done-init g c = record { within = omega arith; wrote = wrote_nothing _; faults = refl }

pub loop-done-preserved : goal.loop-done-preserved
loop-done-preserved g c = record {
  within = piece_within _ _ _ c.args.bytes.now c.loop-done.invariant.within c.in-Ok.ensures.within;
  wrote =
      wrote_more _ _ _ c.args.bytes.now _ _ _ c.loop-done.invariant.wrote c.in-Ok.ensures.added c.in-Ok.ensures.within;
  faults = c.in-Ok.ensures.not_counted ∙ c.loop-done.invariant.faults;
}

pub returns-in-Err-clause-some : goal.returns-in-Err-clause-some
returns-in-Err-clause-some g c =
    wrote_some _ c.args.bytes.now _ _ _ c.loop-done-test.true c.loop-done.invariant.wrote c.in-Err.ensures.refused

pub returns-in-Err-clause-counted : goal.returns-in-Err-clause-counted
returns-in-Err-clause-counted g c = c.in-Err.ensures.counted ∙ ap next_count c.loop-done.invariant.faults
