use Rattle.il_code.proofs.Sound.{tiny_is_body}
use Rattle.il_code.proofs.laws.tiny_bodies.Goals as goal

pub returns : goal.returns
returns c = λ bytes code e. tiny_is_body bytes code e
