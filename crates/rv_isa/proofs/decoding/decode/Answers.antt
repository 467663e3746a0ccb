-- The instruction that the fields give is the one whose word this is.
use Rattle.std.proofs.Common.{◌∙◌, ap}
use Rattle.rv_isa.specs.Rows.{instruction}
use Rattle.rv_isa.proofs.Answer.{row_of, back_of, illegal_of}
use Rattle.rv_isa.proofs.decoding.decode.Goals as goal

pub returns-clause-row : goal.returns-clause-row
returns-clause-row c =
    row_of c.args.word _ c.ok_or.result c.ranges.word.fits (c.instruction_of.ensures ∙ ap instruction c.new.ensures)
    c.ok_or.ensures.value

pub returns-clause-back : goal.returns-clause-back
returns-clause-back c =
    back_of c.args.word _ c.ok_or.result (c.instruction_of.ensures ∙ ap instruction c.new.ensures) c.ok_or.ensures.value

pub returns-clause-illegal : goal.returns-clause-illegal
returns-clause-illegal c =
    illegal_of c.args.word _ c.ok_or.result c.ranges.word.fits (c.instruction_of.ensures ∙ ap instruction c.new.ensures)
    c.ok_or.ensures.value
