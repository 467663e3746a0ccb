use Rattle.link_lists.proofs.Growing.{grown}
use Rattle.link_lists.proofs.laws.chains_in_a_growing_pool.Goals as goal

pub returns-clause-sound : goal.returns-clause-sound
returns-clause-sound c = λ K chain links link h. (grown chain links link h).0

pub returns-clause-places : goal.returns-clause-places
returns-clause-places c = λ K chain links link h. (grown chain links link h).1
