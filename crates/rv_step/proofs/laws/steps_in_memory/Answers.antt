use Rattle.rv_step.proofs.KeptBytes.{kept_bytes, stored_always}
use Rattle.rv_step.proofs.laws.steps_in_memory.Goals as goal

pub returns : goal.returns
returns c = record { bytes = kept_bytes; stored = stored_always }
