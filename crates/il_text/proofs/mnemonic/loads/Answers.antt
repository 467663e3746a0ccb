use Rattle.std.proofs.Common.{refl}
use Rattle.il_text.specs.Mnemonics.{loads}
use Rattle.il_text.proofs.mnemonic.loads.Goals as goal

pub returns : goal.returns
unfolding loads
returns c = refl
