use Rattle.lir_core.proofs.Copying.{same_copy, same_write}
use Rattle.lir_core.proofs.Telling.{reflexive, same_number, transitive}
use Rattle.lir_core.proofs.laws.telling.Goals as goal

pub returns-clause-itself : goal.returns-clause-itself
returns-clause-itself c = reflexive

pub returns-clause-through : goal.returns-clause-through
returns-clause-through c = transitive

pub returns-clause-number : goal.returns-clause-number
returns-clause-number c = same_number

pub returns-clause-copied : goal.returns-clause-copied
returns-clause-copied c = same_copy

pub returns-clause-written : goal.returns-clause-written
returns-clause-written c = same_write
