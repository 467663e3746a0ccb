use Rattle.rv_words.proofs.RaiseLaws.{end_handler_followed, raise_followed, rethrow_followed}
use Rattle.rv_words.proofs.laws.raising.Goals as goal

pub returns : goal.returns
returns c = record {
  raising = λ placing is. record {
    raise = raise_followed placing is;
    rethrow = rethrow_followed placing is;
    end_handler = end_handler_followed placing is;
  };
}
