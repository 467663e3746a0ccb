use Rattle.std.proofs.Common.{refl}
use Rattle.core_lib.specs.Classes.{classes}
use Rattle.core_lib.specs.Rows.{runtime_calls}
use Rattle.core_lib.proofs.held.runtime_calls.Goals as goal

pub returns : goal.returns
unfolding classes runtime_calls
returns c = refl
