use Rattle.il_verify.proofs.Raising.{raised_within}
use Rattle.il_verify.proofs.laws.raised_by_the_opcode.Goals as goal

pub returns : goal.returns
returns c = raised_within
