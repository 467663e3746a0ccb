use Rattle.il_stacks.proofs.Rounds.{by_rounds}
use Rattle.il_stacks.proofs.laws.least_stacks_by_rounds.Goals as goal

pub returns : goal.returns
returns c = by_rounds
