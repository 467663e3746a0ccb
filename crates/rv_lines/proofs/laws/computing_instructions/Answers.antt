use Rattle.rv_lines.proofs.Values.{wrapped_operation}
use Rattle.rv_lines.proofs.laws.computing_instructions.Goals as goal

pub returns : goal.returns
returns c = record { wrapped = wrapped_operation }
