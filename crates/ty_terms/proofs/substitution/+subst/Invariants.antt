use Rattle.std.proofs.Common.{◌≡◌, take, map}
use Rattle.ty_terms.specs.Subst.{substituted}
use Rattle.ty_terms.proofs.substitution.+subst.Given as goal

abbrev pub invariant-subst_all-loop-ty : goal.invariant-subst_all-loop-ty
invariant-subst_all-loop-ty l = l.done ≡ map (substituted l.owner l.method) (take l.ty-index l.types)
