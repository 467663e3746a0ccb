use Rattle.std.proofs.Common.{◌≡◌, ◌-◌, ◌<◌, ◌≤◌, false, length, take, arith, length-take, refl, ap, ◌∙◌}
use Rattle.ilc_io.specs.Count.{next_count}
use Rattle.rv_step.proofs.Exchanges.{filled_start, filled_step}
use Rattle.rv_step.proofs.fill.fill_bytes.Goals as goal

pub loop-at-init : goal.loop-at-init
loop-at-init g c = record {
  rising = omega arith;
  within = c.requires.rising;
  room = c.requires.within;
  filled = filled_start c.args.from c.args.bytes.now c.args.at_end.now _ c.requires.end_is_true;
  faults = refl;
}

pub loop-at-preserved : goal.loop-at-preserved
loop-at-preserved g c =
    let inv = c.loop-at.invariant in
    let goes : c.loop-at.at_end ≡ false = assumption c in
    let lt : c.loop-at.at < c.args.end = c.loop-at-test.true in
    let inside : c.args.from ≤ length c.args.bytes.now = omega (arith, c.requires.rising, c.requires.within) in
    let few : c.min-wanted.result ≤ c.args.end - c.loop-at.at = omega (arith, c.min-wanted.ensures) in
    let some : 0 < length (take c.min-wanted.result c.loop-at.piece) =
    omega (arith, length-take c.min-wanted.result c.loop-at.piece, c.min-wanted.ensures, lt) in
    let step =
    filled_step c.args.from c.loop-at.at c.args.end c.in-Ok.read c.min-wanted.result c.args.bytes.now c.loop-at.bytes
    c.overwrite.new.self c.loop-at.piece c.read.new.into c.args.at_end.now c.loop-at.at_end _ _ _ inv.filled goes
    inv.rising lt inv.room inside few some c.in-Ok.ensures.within c.read.auto.into c.in-Ok.ensures.exact
    c.in-Ok.ensures.taken c.overwrite.ensures in
    record {
      rising = omega (arith, inv.rising);
      within = step.0;
      room = step.1;
      filled = step.2;
      faults = c.in-Ok.ensures.not_counted ∙ inv.faults;
    }

pub returns-in-Err-clause-counted : goal.returns-in-Err-clause-counted
returns-in-Err-clause-counted g c = c.in-Err.ensures.counted ∙ ap next_count c.loop-at.invariant.faults
