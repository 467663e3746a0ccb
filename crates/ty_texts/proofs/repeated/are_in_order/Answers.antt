use Rattle.std.proofs.Common.{arith}
use Rattle.ty_texts.specs.Repeats.{are_in_order}
use Rattle.ty_texts.proofs.Repeats.{one_in_order}
use Rattle.ty_texts.proofs.repeated.are_in_order.Goals as goal

pub loop-before-preserved : goal.loop-before-preserved
loop-before-preserved c =
    record {
      within = omega (arith, c.type_count.ensures);
      rest =
          one_in_order c.args.names.now c.args.module c.loop-before.before
          (are_in_order c.args.names.now c.args.module) (omega (arith, c.type_count.ensures))
          (omega (arith, c.enclosing.ensures)) c.loop-before.invariant.rest;
    }
