use Rattle.std.proofs.Common.{refl}
use Rattle.core_lib.specs.Classes.{classes, instances, local_lists, texts}
use Rattle.core_lib.proofs.laws.names_are_found.Goals as goal

pub returns : goal.returns
unfolding classes instances local_lists texts
returns c = refl
