use Rattle.rv_isa.proofs.WordFits.{word_fits}
use Rattle.rv_isa.proofs.decoding.words_fit.Goals as goal

pub returns : goal.returns
returns c = word_fits
