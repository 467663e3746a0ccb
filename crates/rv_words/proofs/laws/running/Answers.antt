use Rattle.rv_words.proofs.Begins.{begun}
use Rattle.rv_words.proofs.CallLaws.{call_followed}
use Rattle.rv_words.proofs.ReturnLaws.{return_followed}
use Rattle.rv_words.proofs.RunLaws.{whole_runs}
use Rattle.rv_words.proofs.laws.running.Goals as goal

pub returns : goal.returns
returns c = record {
  running = λ placing is.
      whole_runs placing is
      (record { call = call_followed placing is; return = return_followed placing is }) (begun placing is);
}
