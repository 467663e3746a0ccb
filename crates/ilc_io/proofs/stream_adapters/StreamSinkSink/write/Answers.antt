use Rattle.std.proofs.Common.{◌++◌, take}
use Rattle.ilc_io.proofs.Told.{known_after}
use Rattle.ilc_io.proofs.stream_adapters.StreamSinkSink.write.Goals as goal

pub invariant_of-self : goal.invariant_of-self
invariant_of-self g c = λ tells.
    known_after (λ held. held ++ take c.in-Ok.count c.args.piece.now) _ _ (c.self.invariant tells) c.in-Ok.ensures.added
