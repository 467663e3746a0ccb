use Rattle.rv_lines.proofs.Comparing.{compared_lines}
use Rattle.rv_lines.proofs.Converting.{converted_lines}
use Rattle.rv_lines.proofs.laws.computing_lines.Goals as goal

pub returns : goal.returns
returns c = record { converted = converted_lines; compared = compared_lines }
