use Rattle.cil_world.proofs.BoxedValue.{boxed_value_run}
use Rattle.cil_world.proofs.CaughtBehind.{caught_run}
use Rattle.cil_world.proofs.FailingSteps.{failing_run}
use Rattle.cil_world.proofs.Programs.{constant_run, endless_run, two_calls_run}
use Rattle.cil_world.proofs.VirtualCall.{virtual_call_run}
use Rattle.cil_world.proofs.laws.small_programs.Goals as goal

pub returns-clause-constant : goal.returns-clause-constant
returns-clause-constant c = constant_run

pub returns-clause-two_calls : goal.returns-clause-two_calls
returns-clause-two_calls c = two_calls_run

pub returns-clause-endless : goal.returns-clause-endless
returns-clause-endless c = endless_run

pub returns-clause-caught_behind : goal.returns-clause-caught_behind
returns-clause-caught_behind c = caught_run

pub returns-clause-virtual_call : goal.returns-clause-virtual_call
returns-clause-virtual_call c = virtual_call_run

pub returns-clause-boxed_value : goal.returns-clause-boxed_value
returns-clause-boxed_value c = boxed_value_run

pub returns-clause-failing_initializer : goal.returns-clause-failing_initializer
returns-clause-failing_initializer c = failing_run
