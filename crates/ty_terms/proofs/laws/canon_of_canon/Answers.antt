use Rattle.ty_terms.proofs.CanonLaws.{canonical_twice}
use Rattle.ty_terms.proofs.laws.canon_of_canon.Goals as goal

pub returns : goal.returns
returns c = canonical_twice
