use Rattle.il_verify.proofs.Exactly.{by_rounds}
use Rattle.il_verify.proofs.laws.least_stacks_by_rounds.Goals as goal

pub returns : goal.returns
returns c = by_rounds
