use Rattle.cil_state.proofs.Bodies.{constant, difference, lacking, round}
use Rattle.cil_state.proofs.laws.small_bodies.Goals as goal

pub returns-clause-constant : goal.returns-clause-constant
returns-clause-constant c = constant

pub returns-clause-difference : goal.returns-clause-difference
returns-clause-difference c = difference

pub returns-clause-round : goal.returns-clause-round
returns-clause-round c = round

pub returns-clause-lacking : goal.returns-clause-lacking
returns-clause-lacking c = lacking
