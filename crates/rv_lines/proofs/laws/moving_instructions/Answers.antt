use Rattle.rv_lines.proofs.Loading.{loaded_number, stored_number}
use Rattle.rv_lines.proofs.laws.moving_instructions.Goals as goal

pub returns : goal.returns
returns c = record { loaded = loaded_number; stored = stored_number }
