use Rattle.std.proofs.Common.{slice_index}
use Rattle.rv_step.proofs.Effects.{load_done, first_byte}
use Rattle.rv_step.proofs.machine.Machine.load_byte_unsigned.Goals as goal

pub returns : goal.returns
returns c =
    load_done c.args.self.now c.give.new.self c.args.register 1 c.args.address (slice_index c.in-Some.bytes.now 0)
    (λ n. n) c.in-Some.bytes.now c.give.result c.in-Some.ensures.bytes
    (first_byte c.in-Some.bytes.now) c.give.ensures
