use Rattle.cil_world.proofs.Bare.{ends, goes_on}
use Rattle.cil_world.proofs.Programs.{constant_begins}
use Rattle.cil_world.proofs.laws.bare_bodies.Goals as goal

pub returns-clause-goes_on : goal.returns-clause-goes_on
returns-clause-goes_on c = goes_on

pub returns-clause-ends : goal.returns-clause-ends
returns-clause-ends c = ends

pub returns-clause-met : goal.returns-clause-met
returns-clause-met c = constant_begins
