use Rattle.rv_code.proofs.Going.{calculated}
use Rattle.rv_code.proofs.laws.blocks_of_code.Goals as goal

pub returns : goal.returns
returns c = record { calculated = calculated }
