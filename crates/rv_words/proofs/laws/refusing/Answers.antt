use Rattle.rv_words.proofs.RefusingLaws.{checked_followed, convert_checked_followed, divide_followed}
use Rattle.rv_words.proofs.laws.refusing.Goals as goal

pub returns : goal.returns
returns c = record {
  refusing = λ placing is. record {
    checked = checked_followed placing is;
    divide = divide_followed placing is;
    convert_checked = convert_checked_followed placing is;
  };
}
