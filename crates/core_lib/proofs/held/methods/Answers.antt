use Rattle.std.proofs.Common.{refl}
use Rattle.core_lib.specs.Classes.{classes, local_lists, texts}
use Rattle.core_lib.proofs.held.methods.Goals as goal

pub returns : goal.returns
unfolding classes local_lists texts
returns c = refl
