use Rattle.ty_terms.proofs.SubstLaws.{subst_composes}
use Rattle.ty_terms.proofs.laws.subst_of_subst.Goals as goal

pub returns : goal.returns
returns c = subst_composes
