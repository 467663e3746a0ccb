use Rattle.il_verify.proofs.Tables.{outside}
use Rattle.il_verify.proofs.laws.opcodes_outside.Goals as goal

pub returns : goal.returns
returns c = outside
