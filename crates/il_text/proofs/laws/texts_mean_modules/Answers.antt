use Rattle.il_text.proofs.WholeText.{meant}
use Rattle.il_text.proofs.laws.texts_mean_modules.Goals as goal

pub returns : goal.returns
returns c = λ text m e. meant text m e
