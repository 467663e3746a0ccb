use Rattle.rv_step.proofs.Effects.{load_done}
use Rattle.rv_step.proofs.machine.Machine.load_word_unsigned.Goals as goal

pub returns : goal.returns
returns c =
    load_done c.args.self.now c.give.new.self c.args.register 4 c.args.address (c.read_u32-word.result)
    (λ n. n) c.in-Some.bytes.now c.give.result c.in-Some.ensures.bytes (c.read_u32-word.ensures) c.give.ensures
