use Rattle.cil_world.proofs.Later.{later_run, later_step}
use Rattle.cil_world.proofs.laws.later_streams.Goals as goal

pub returns-clause-by_a_step : goal.returns-clause-by_a_step
returns-clause-by_a_step c = later_step

pub returns-clause-by_a_run : goal.returns-clause-by_a_run
returns-clause-by_a_run c = later_run
