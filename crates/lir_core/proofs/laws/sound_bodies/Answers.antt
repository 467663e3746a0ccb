use Rattle.lir_core.proofs.Sound.{operation_at, short_at, slots_apart}
use Rattle.lir_core.proofs.laws.sound_bodies.Goals as goal

pub returns-clause-operation : goal.returns-clause-operation
returns-clause-operation c = operation_at

pub returns-clause-apart : goal.returns-clause-apart
returns-clause-apart c = slots_apart

pub returns-clause-short : goal.returns-clause-short
returns-clause-short c = short_at
