use Rattle.cli_layout.proofs.ExtentLaws.{all_told}
use Rattle.cli_layout.proofs.extents.types_extents.Goals as goal

pub returns : goal.returns
returns g c =
    all_told c.count.result (g.D.Definitions.world c.args.definitions.now) c.args.env.now c.args.types.now
    c.extents.result c.count.ensures c.extents.ensures.told
