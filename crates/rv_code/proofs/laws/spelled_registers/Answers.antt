use Rattle.rv_code.proofs.Spelled.{spelled}
use Rattle.rv_code.proofs.laws.spelled_registers.Goals as goal

pub returns : goal.returns
returns c = record { words = spelled }
