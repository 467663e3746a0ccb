use Rattle.std.proofs.Common.{◌∙◌, ap}
use Rattle.std.specs.Int.{cast_signed, w32}
use Rattle.num_core.specs.Bits.{low_bits}
use Rattle.rv_step.proofs.Effects.{load_done}
use Rattle.rv_step.proofs.machine.Machine.load_word.Goals as goal

pub returns : goal.returns
returns c =
    load_done c.args.self.now c.give.new.self c.args.register 4 c.args.address (c.extend_word-value.result)
    (λ n. low_bits 64 (cast_signed w32 n)) c.in-Some.bytes.now c.give.result c.in-Some.ensures.bytes
    (c.extend_word-value.ensures ∙ ap (λ n. low_bits 64 (cast_signed w32 n)) c.read_u32.ensures) c.give.ensures
