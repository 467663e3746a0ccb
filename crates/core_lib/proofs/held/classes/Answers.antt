use Rattle.std.proofs.Common.{refl}
use Rattle.core_lib.specs.Classes.{classes}
use Rattle.core_lib.proofs.held.classes.Goals as goal

pub returns : goal.returns
unfolding classes
returns c = refl
