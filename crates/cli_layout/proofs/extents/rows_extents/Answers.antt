use Rattle.cli_layout.proofs.ExtentLaws.{rows_told}
use Rattle.cli_layout.proofs.extents.rows_extents.Goals as goal

pub returns : goal.returns
returns g c =
    rows_told c.count.result (g.D.Definitions.world c.args.definitions.now) c.args.env.now c.args.id
    c.args.fields.now c.each_extent.result c.count.ensures c.each_extent.ensures.told
