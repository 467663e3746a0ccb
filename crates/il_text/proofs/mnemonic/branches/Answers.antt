use Rattle.std.proofs.Common.{refl}
use Rattle.il_text.specs.Mnemonics.{branches}
use Rattle.il_text.proofs.mnemonic.branches.Goals as goal

pub returns : goal.returns
unfolding branches
returns c = refl
