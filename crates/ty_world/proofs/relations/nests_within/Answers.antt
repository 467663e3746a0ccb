use Rattle.ty_world.proofs.Held.{nests_within}
use Rattle.ty_world.proofs.relations.nests_within.Goals as goal

pub returns : goal.returns
returns c = nests_within c.args.given.now.tables c.tables-tables.ensures.whole
