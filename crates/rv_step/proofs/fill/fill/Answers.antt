use Rattle.std.proofs.Common.{sym, arith}
use Rattle.rv_step.specs.declared.segment.Access.TheVariants.{Write}
use Rattle.rv_step.proofs.Memory.{bytes_at_none, served}
use Rattle.rv_step.proofs.Exchanges.{segment_filled}
use Rattle.rv_step.proofs.fill.fill.Goals as goal

pub fill-requires-clause-covered : goal.fill-requires-clause-covered
fill-requires-clause-covered g c =
    served Write c.args.address c.args.count c.index-segments-place.result c.args.segments.now c.in-Some.place
    (sym c.in-Some.ensures)

pub returns-in-Ok-clause-filled : goal.returns-in-Ok-clause-filled
returns-in-Ok-clause-filled g c =
    let filled = c.in-Ok.ensures.filled in (
      filled.0,
      segment_filled c.in-Ok.got c.args.address c.args.count c.in-Some.place c.index-segments-place.result
          c.fill.new.self c.args.segments.now _ _ _ _ (sym c.in-Some.ensures) c.in-Ok.ensures.others filled.0 filled.1,
    )

pub returns-in-Err-clause-broken_off : goal.returns-in-Err-clause-broken_off
returns-in-Err-clause-broken_off g c =
    let broken = c.in-Err.ensures.broken_off in (
      broken.0,
      broken.1,
      segment_filled broken.0 c.args.address c.args.count c.in-Some.place c.index-segments-place.result c.fill.new.self
          c.args.segments.now _ _ _ _ (sym c.in-Some.ensures) c.in-Err.ensures.others (omega (arith, broken.1))
          broken.2,
    )

pub returns-in-None-clause-nowhere : goal.returns-in-None-clause-nowhere
returns-in-None-clause-nowhere g c = λ is. bytes_at_none Write c.args.address c.args.count c.args.segments.now
    (sym c.in-None.ensures)
