use Rattle.std.proofs.Common.{refl}
use Rattle.il_text.specs.Mnemonics.{arithmetic}
use Rattle.il_text.proofs.mnemonic.arithmetic.Goals as goal

pub returns : goal.returns
unfolding arithmetic
returns c = refl
