use Rattle.std.proofs.Common.{◌∙◌, ap}
use Rattle.std.specs.Int.{cast_signed, w8}
use Rattle.num_core.specs.Bits.{low_bits}
use Rattle.rv_step.proofs.Effects.{load_done, first_byte}
use Rattle.rv_step.proofs.machine.Machine.load_byte.Goals as goal

pub returns : goal.returns
returns c =
    load_done c.args.self.now c.give.new.self c.args.register 1 c.args.address (c.extend_byte-value.result)
    (λ n. low_bits 64 (cast_signed w8 n)) c.in-Some.bytes.now c.give.result c.in-Some.ensures.bytes
    (c.extend_byte-value.ensures ∙ ap (λ n. low_bits 64 (cast_signed w8 n))
    (first_byte c.in-Some.bytes.now)) c.give.ensures
