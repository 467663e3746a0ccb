use Rattle.rv_words.proofs.BranchLaws.{branch_followed, if_zero_followed, unless_zero_followed}
use Rattle.rv_words.proofs.laws.branching.Goals as goal

pub returns : goal.returns
returns c = record {
  branching = λ placing is. record {
    branch = branch_followed placing is;
    if_zero = if_zero_followed placing is;
    unless_zero = unless_zero_followed placing is;
  };
}
