use Rattle.ty_terms.proofs.CanonLaws.{form_twice}
use Rattle.ty_terms.proofs.laws.canon_of_canonical_form.Goals as goal

pub returns : goal.returns
returns c = form_twice
