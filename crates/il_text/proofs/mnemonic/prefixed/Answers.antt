use Rattle.std.proofs.Common.{refl}
use Rattle.il_text.specs.Mnemonics.{prefixed}
use Rattle.il_text.proofs.mnemonic.prefixed.Goals as goal

pub returns : goal.returns
unfolding prefixed
returns c = refl
