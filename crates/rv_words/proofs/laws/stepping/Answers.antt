use Rattle.rv_words.proofs.CallLaws.{call_followed}
use Rattle.rv_words.proofs.ReturnLaws.{return_followed}
use Rattle.rv_words.proofs.RunLaws.{one_step}
use Rattle.rv_words.proofs.laws.stepping.Goals as goal

pub returns : goal.returns
returns c = record {
  stepping = λ placing is.
      one_step placing is
      (record { call = call_followed placing is; return = return_followed placing is });
}
