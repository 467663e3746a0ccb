use Rattle.cil_world.proofs.Runs.{ended_stays, stopped_stays}
use Rattle.cil_world.proofs.laws.ended_runs.Goals as goal

pub returns-clause-ended : goal.returns-clause-ended
returns-clause-ended c = ended_stays

pub returns-clause-stopped : goal.returns-clause-stopped
returns-clause-stopped c = stopped_stays
