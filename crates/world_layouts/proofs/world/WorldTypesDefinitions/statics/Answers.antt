use Rattle.std.proofs.Common.{true}
use Rattle.ty_names.specs.Definitions.{fields_of}
use Rattle.ty_names.specs.Modules.{tables_at}
use Rattle.world_layouts.proofs.Placing.{statics_told}
use Rattle.world_layouts.proofs.Shallow.{depth_told}
use Rattle.world_layouts.proofs.world.WorldTypesDefinitions.statics.Goals as goal

pub returns-clause-rows : goal.returns-clause-rows
returns-clause-rows c = statics_told c.args.self.now.members.now c.args.id c.fields.result c.fields.ensures.rows

pub returns-clause-depth : goal.returns-clause-depth
returns-clause-depth c =
    depth_told c.args.self.now.members.now c.args.id true
    (fields_of (tables_at c.args.self.now.members.now c.args.id.module) c.args.id.row) c.fields.result
    c.fields.ensures.rows
