use Rattle.rv_words.proofs.ComputingLaws.{binary_followed, compare_followed, convert_followed, shift_followed}
use Rattle.rv_words.proofs.ComputingLaws.{unary_followed}
use Rattle.rv_words.proofs.laws.computing.Goals as goal

pub returns : goal.returns
returns c = record {
  computing = λ placing is. record {
    binary = binary_followed placing is;
    unary = unary_followed placing is;
    shift = shift_followed placing is;
    convert = convert_followed placing is;
    compare = compare_followed placing is;
  };
}
