use Rattle.rv_words.proofs.SearchLaws.{unhandled_followed}
use Rattle.rv_words.proofs.laws.searching.Goals as goal

pub returns : goal.returns
returns c = record { searching = λ placing is. record { nothing = unhandled_followed placing is } }
