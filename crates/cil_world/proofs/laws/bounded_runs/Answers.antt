use Rattle.cil_world.proofs.KeepingRuns.{run_grows, run_in_bounds, step_grows}
use Rattle.cil_world.proofs.laws.bounded_runs.Goals as goal

pub returns-clause-grows_by_a_step : goal.returns-clause-grows_by_a_step
returns-clause-grows_by_a_step c = step_grows

pub returns-clause-grows_by_a_run : goal.returns-clause-grows_by_a_run
returns-clause-grows_by_a_run c = run_grows

pub returns-clause-in_bounds : goal.returns-clause-in_bounds
returns-clause-in_bounds c = run_in_bounds
