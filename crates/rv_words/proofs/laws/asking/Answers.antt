use Rattle.rv_words.proofs.AskLaws.{routine_followed}
use Rattle.rv_words.proofs.laws.asking.Goals as goal

pub returns : goal.returns
returns c = record { asking = λ placing is. record { routine = routine_followed placing is } }
