use Rattle.il_code.proofs.Opcodes.{same_opcodes}
use Rattle.il_code.proofs.laws.opcodes_of_the_standard.Goals as goal

pub returns : goal.returns
returns c = same_opcodes
