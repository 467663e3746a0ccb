use Rattle.il_verify.proofs.Exactly.{typing_when, verified_when}
use Rattle.il_verify.proofs.laws.verified_exactly.Goals as goal

pub returns-clause-verified : goal.returns-clause-verified
returns-clause-verified c = verified_when

pub returns-clause-typed : goal.returns-clause-typed
returns-clause-typed c = typing_when
