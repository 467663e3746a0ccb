use Rattle.std.proofs.Common.{refl}
use Rattle.core_lib.specs.Classes.{classes, instances}
use Rattle.core_lib.proofs.held.instances.Goals as goal

pub returns : goal.returns
unfolding classes instances
returns c = refl
