use Rattle.std.proofs.Common.{◌≡◌, ◌∙◌, ◌+◌, subst, sym, take, ap, suc, arith, ◌||◌}
use Rattle.std.proofs.Math.Seq.{take-suc}
use Rattle.ilc_build.specs.Raising.{IsTold}
use Rattle.ilc_build.proofs.Telling.{told-both}
use Rattle.ilc_build.proofs.depths.raise_all.Goals as goal

pub loop-offset-preserved : goal.loop-offset-preserved
loop-offset-preserved c =
    let next : c.loop-offset.offset-index + 1 ≡ suc c.loop-offset.offset-index = omega arith in
    subst (λ offsets. IsTold c.args.instrs.now c.args.known offsets c.args.table.now c.raise-more.new.table
    (c.loop-offset.raised || c.raise-more.result))
    (sym (ap (λ n. take n c.args.offsets.now) next
    ∙ take-suc c.args.offsets.now c.loop-offset.offset-index 0 c.loop-offset-test.true))
    (told-both c.args.instrs.now c.args.known (take c.loop-offset.offset-index c.args.offsets.now) _ c.args.table.now
    c.loop-offset.table c.raise-more.new.table c.loop-offset.raised c.raise-more.result c.loop-offset.invariant
    c.raise-more.ensures)
