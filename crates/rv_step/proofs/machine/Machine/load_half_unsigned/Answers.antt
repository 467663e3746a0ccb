use Rattle.rv_step.proofs.Effects.{load_done}
use Rattle.rv_step.proofs.machine.Machine.load_half_unsigned.Goals as goal

pub returns : goal.returns
returns c =
    load_done c.args.self.now c.give.new.self c.args.register 2 c.args.address (c.read_u16-value.result)
    (λ n. n) c.in-Some.bytes.now c.give.result c.in-Some.ensures.bytes (c.read_u16-value.ensures) c.give.ensures
