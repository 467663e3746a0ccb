use Rattle.rv_step.proofs.Requests.{reads_nothing, read_there, broke_there, zero_by, some_by}
use Rattle.rv_step.proofs.machine.Machine.read_call.Goals as goal

pub returns-then-wanted-eq0-clause-answers : goal.returns-then-wanted-eq0-clause-answers
returns-then-wanted-eq0-clause-answers g c = λ output error.
    reads_nothing c.args.self.now c.answer.new.self c.args.at_end.now _
    (zero_by c.args.self.now _ _ c.get-wanted.ensures c.of.ensures c.if-wanted-eq0.true) c.answer.ensures c.requires

pub returns-in-Ok-Some-clause-answers : goal.returns-in-Ok-Some-clause-answers
returns-in-Ok-Some-clause-answers g c = λ output error.
    read_there c.args.self.now c.fill.new.self c.answer-in-Ok-Some.new.self c.in-Ok-Some.got _ _ _ _ _ _ _ _ output
    error c.get-wanted.ensures c.of.ensures c.get.ensures c.of-2.ensures c.if-wanted-eq0.false
    (rw c.in-Ok-Some.field-0-is at c.in-Ok-Some.ensures.filled)
    (rw c.in-Ok-Some.field-0-is at c.in-Ok-Some.ensures.whole)
    c.in-Ok-Some.ensures.pc c.in-Ok-Some.ensures.registers c.answer-in-Ok-Some.ensures

pub returns-in-Err-clause-answers : goal.returns-in-Err-clause-answers
returns-in-Err-clause-answers g c = λ output error.
    broke_there c.args.self.now c.fill.new.self _ _ _ _ _ _ _ _ output error c.get-wanted.ensures c.of.ensures
    c.get.ensures c.of-2.ensures c.if-wanted-eq0.false
    c.in-Err.ensures.broken_off c.in-Err.ensures.asked c.in-Err.ensures.pc c.in-Err.ensures.registers

pub returns-in-Err-clause-counted : goal.returns-in-Err-clause-counted
returns-in-Err-clause-counted g c = λ is.
    (some_by c.args.self.now _ _ c.get-wanted.ensures c.of.ensures c.if-wanted-eq0.false, c.in-Err.ensures.counted)
