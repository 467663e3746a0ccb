use Rattle.ty_texts.proofs.Resolved.{Makes}
use Rattle.ty_texts.proofs.signatures.resolved_params.Given as goal

abbrev pub invariant-loop-ty : goal.invariant-loop-ty
invariant-loop-ty l = Makes l.names l.module l.owner l.method l.params l.done l.ty-index
