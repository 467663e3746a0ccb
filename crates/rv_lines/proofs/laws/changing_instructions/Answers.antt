use Rattle.rv_lines.proofs.Shifting.{changed_value, shifted_value}
use Rattle.rv_lines.proofs.laws.changing_instructions.Goals as goal

pub returns : goal.returns
returns c = record { changed = changed_value; shifted = shifted_value }
