use Rattle.rv_step.proofs.Effects.{load_done}
use Rattle.rv_step.proofs.machine.Machine.load_double.Goals as goal

pub returns : goal.returns
returns c =
    load_done c.args.self.now c.give.new.self c.args.register 8 c.args.address (c.read_u64-value.result)
    (λ n. n) c.in-Some.bytes.now c.give.result c.in-Some.ensures.bytes (c.read_u64-value.ensures) c.give.ensures
