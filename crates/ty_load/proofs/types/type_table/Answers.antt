use Rattle.ty_load.proofs.Counts.{sized}
use Rattle.ty_load.proofs.types.type_table.Goals as goal

pub parameter_counts-requires : goal.parameter_counts-requires
parameter_counts-requires c = (sized c.args.tables.now c.requires).1

pub type_rows-requires-clause-size : goal.type_rows-requires-clause-size
type_rows-requires-clause-size c = (sized c.args.tables.now c.requires).0
