use Rattle.rv_words.proofs.ClearLaws.{clear_followed}
use Rattle.rv_words.proofs.CopyLaws.{copy_followed}
use Rattle.rv_words.proofs.laws.copying.Goals as goal

pub returns : goal.returns
returns c = record {
  copying = λ placing is. record { copy = copy_followed placing is; clear = clear_followed placing is };
}
