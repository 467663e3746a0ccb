use Rattle.rv_words.proofs.JumpLaws.{jump_followed, leave_followed}
use Rattle.rv_words.proofs.laws.jumping.Goals as goal

pub returns : goal.returns
returns c = record {
  jumping = λ placing is. record { jump = jump_followed placing is; leave = leave_followed placing is };
}
