use Rattle.std.proofs.Common.{refl}
use Rattle.il_text.specs.Mnemonics.{objects}
use Rattle.il_text.proofs.mnemonic.objects.Goals as goal

pub returns : goal.returns
unfolding objects
returns c = refl
