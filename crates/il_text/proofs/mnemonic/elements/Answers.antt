use Rattle.std.proofs.Common.{refl}
use Rattle.il_text.specs.Mnemonics.{elements}
use Rattle.il_text.proofs.mnemonic.elements.Goals as goal

pub returns : goal.returns
unfolding elements
returns c = refl
