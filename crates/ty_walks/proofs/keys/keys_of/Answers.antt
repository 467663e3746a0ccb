use Rattle.std.proofs.Common.{arith}
use Rattle.ty_walks.proofs.Knowing.{tells_more}
use Rattle.ty_walks.proofs.keys.keys_of.Goals as goal

pub loop-id-preserved : goal.loop-id-preserved
loop-id-preserved c =
    tells_more c.args.ids.now c.loop-id.id-index _ c.loop-id.keys.keys c.insert.new.self.keys
    (omega arith) c.in_ok-insert.ensures.updates.0 c.loop-id.invariant
