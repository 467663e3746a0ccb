use Rattle.md_tables.proofs.Least.{one_more}
use Rattle.md_tables.proofs.data.are_addresses.Goals as goal

pub loop-one-preserved : goal.loop-one-preserved
loop-one-preserved c =
    one_more c.args.held.now c.loop-one.one-index _ c.loop-one-test.true c.loop-one.invariant c.is_address.ensures
