use Rattle.rv_words.proofs.CallLaws.{call_followed}
use Rattle.rv_words.proofs.ReturnLaws.{return_followed}
use Rattle.rv_words.proofs.laws.calling.Goals as goal

pub returns : goal.returns
returns c = record {
  calling = λ placing is. record { call = call_followed placing is; return = return_followed placing is };
}
