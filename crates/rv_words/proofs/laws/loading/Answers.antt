use Rattle.rv_words.proofs.LoadLaws.{load_followed}
use Rattle.rv_words.proofs.laws.loading.Goals as goal

pub returns : goal.returns
returns c = record { loading = λ placing is. record { load = load_followed placing is } }
