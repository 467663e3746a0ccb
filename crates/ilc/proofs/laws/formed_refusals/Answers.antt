use Rattle.ilc.proofs.Answers.{formed_refusals}
use Rattle.ilc.proofs.laws.formed_refusals.Goals as goal

pub returns : goal.returns
returns c = formed_refusals
