use Rattle.std.proofs.Common.{◌∙◌, ◌+◌, arith, sym}
use Rattle.ty_walks.proofs.Listed.{counted_more}
use Rattle.ty_walks.proofs.assigning.definition_count.Goals as goal

pub loop-module-preserved : goal.loop-module-preserved
loop-module-preserved c = record {
  counted =
      (λ i. c.loop-module.invariant.counted i + c.type_count.ensures i)
      ∙ sym (counted_more c.args.names.now c.loop-module.module);
  few = omega arith;
}
