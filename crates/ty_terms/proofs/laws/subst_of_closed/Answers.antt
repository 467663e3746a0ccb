use Rattle.ty_terms.proofs.SubstLaws.{closed_left_alone}
use Rattle.ty_terms.proofs.laws.subst_of_closed.Goals as goal

pub returns : goal.returns
returns c = closed_left_alone
