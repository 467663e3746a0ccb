use Rattle.rv_words.proofs.StoreLaws.{store_followed}
use Rattle.rv_words.proofs.laws.storing.Goals as goal

pub returns : goal.returns
returns c = record { storing = λ placing is. record { store = store_followed placing is } }
