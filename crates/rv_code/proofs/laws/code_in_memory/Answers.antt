use Rattle.rv_code.proofs.Going.{code_kept, next_place, steps_at}
use Rattle.rv_code.proofs.laws.code_in_memory.Goals as goal

pub returns-clause-step : goal.returns-clause-step
returns-clause-step c = steps_at

pub returns-clause-next : goal.returns-clause-next
returns-clause-next c = next_place

pub returns-clause-kept : goal.returns-clause-kept
returns-clause-kept c = code_kept
