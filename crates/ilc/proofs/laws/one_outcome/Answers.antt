use Rattle.ilc.proofs.OneOutcome.{one_outcome}
use Rattle.ilc.proofs.laws.one_outcome.Goals as goal

pub returns : goal.returns
returns c = one_outcome
