use Rattle.std.proofs.Common.{refl}
use Rattle.core_lib.specs.Classes.{classes, local_lists}
use Rattle.core_lib.proofs.held.locals.Goals as goal

pub returns : goal.returns
unfolding classes local_lists
returns c = refl
