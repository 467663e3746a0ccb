use Rattle.ty_world.proofs.Defined.{inherits_there}
use Rattle.ty_world.proofs.relations.inherits_within.Goals as goal

pub returns : goal.returns
returns c = inherits_there c.args.names.now c.args.id
