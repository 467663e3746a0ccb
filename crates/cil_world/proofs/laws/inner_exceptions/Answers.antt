use Rattle.cil_world.proofs.Inner.{above, inner, topmost, without}
use Rattle.cil_world.proofs.laws.inner_exceptions.Goals as goal

pub returns-clause-named : goal.returns-clause-named
returns-clause-named c = inner

pub returns-clause-above : goal.returns-clause-above
returns-clause-above c = above

pub returns-clause-topmost : goal.returns-clause-topmost
returns-clause-topmost c = topmost

pub returns-clause-without : goal.returns-clause-without
returns-clause-without c = without
