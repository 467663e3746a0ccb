use Rattle.rv_words.proofs.MoveLaws.{move_followed}
use Rattle.rv_words.proofs.laws.moving.Goals as goal

pub returns : goal.returns
returns c = record { moving = λ placing is. record { move = move_followed placing is } }
