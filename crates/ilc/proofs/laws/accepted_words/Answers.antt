use Rattle.ilc.proofs.WordLaws.{first_wrong}
use Rattle.ilc.proofs.WordLemmas.{accepted_is_line, line_is_accepted}
use Rattle.ilc.proofs.laws.accepted_words.Goals as goal

pub returns-clause-accepted : goal.returns-clause-accepted
returns-clause-accepted c words asked = (accepted_is_line words asked, line_is_accepted words asked)

pub returns-clause-first_wrong : goal.returns-clause-first_wrong
returns-clause-first_wrong c = first_wrong
