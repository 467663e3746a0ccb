use Rattle.std.proofs.Common.{◌∙◌, sym, arith}
use Rattle.ty_texts.proofs.Resolved.{one_param}
use Rattle.ty_texts.proofs.signatures.resolved_params.Goals as goal

pub loop-ty-preserved : goal.loop-ty-preserved
loop-ty-preserved c =
    one_param c.args.names.now c.args.module c.args.owner c.args.method c.args.params.now c.loop-ty.done
    c.add.new.types c.loop-ty.ty-index c.ty-item.result c.in-Some.ty (omega arith) c.ty-item.is
    (sym c.in_ok-ty.ensures ∙ c.in-Some.is) c.in_ok-add-in-Some.ensures c.loop-ty.invariant
