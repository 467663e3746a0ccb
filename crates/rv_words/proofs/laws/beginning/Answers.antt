use Rattle.rv_words.proofs.Begins.{begun}
use Rattle.rv_words.proofs.laws.beginning.Goals as goal

pub returns : goal.returns
returns c = record { beginning = begun }
