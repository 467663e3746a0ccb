use Rattle.ty_terms.proofs.SubstLaws.{variables_put}
use Rattle.ty_terms.proofs.laws.variables_of_subst.Goals as goal

pub returns : goal.returns
returns c = λ owner method n m ty below in_owner in_method. variables_put owner method n m in_owner in_method ty below
