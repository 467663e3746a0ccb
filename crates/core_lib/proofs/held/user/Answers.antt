use Rattle.std.proofs.Common.{refl}
use Rattle.core_lib.specs.Classes.{texts}
use Rattle.core_lib.proofs.held.user.Goals as goal

pub returns : goal.returns
unfolding texts
returns c = refl
