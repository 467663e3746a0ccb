use Rattle.rv_words.proofs.ConstantLaws.{address_followed, constant_followed, dictionary_followed}
use Rattle.rv_words.proofs.ConstantLaws.{slot_address_followed}
use Rattle.rv_words.proofs.laws.naming.Goals as goal

pub returns : goal.returns
returns c = record {
  naming = λ placing is. record {
    constant = constant_followed placing is;
    address = address_followed placing is;
    slot_address = slot_address_followed placing is;
    dictionary = dictionary_followed placing is;
  };
}
