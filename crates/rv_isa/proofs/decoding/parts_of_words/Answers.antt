use Rattle.rv_isa.proofs.Rows.{known, found}
use Rattle.rv_isa.proofs.decoding.parts_of_words.Goals as goal

pub returns-clause-known : goal.returns-clause-known
returns-clause-known c = known

pub returns-clause-found : goal.returns-clause-found
returns-clause-found c = found
