use Rattle.ty_terms.proofs.DepthLaws.{depth_bounded}
use Rattle.ty_terms.proofs.laws.depth_of_subst.Goals as goal

pub returns-clause-no_less : goal.returns-clause-no_less
returns-clause-no_less c = λ owner method ty. (depth_bounded owner method ty).0

pub returns-clause-no_more : goal.returns-clause-no_more
returns-clause-no_more c = λ owner method ty. (depth_bounded owner method ty).1
