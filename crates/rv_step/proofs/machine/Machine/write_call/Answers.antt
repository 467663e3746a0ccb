use Rattle.rv_step.specs.Machine.{to_output, to_error}
use Rattle.rv_step.proofs.Requests.{writes_nothing, wrote_output, wrote_error, broke_output, broke_error, there_by}
use Rattle.rv_step.proofs.Requests.{zero_by, some_by, answered_by}
use Rattle.rv_step.proofs.machine.Machine.write_call.Goals as goal

pub returns-then-count-eq0-clause-to_output : goal.returns-then-count-eq0-clause-to_output
returns-then-count-eq0-clause-to_output g c = λ ended rest error end.
    writes_nothing c.args.self.now c.answer.new.self to_output ended _
    (zero_by c.args.self.now _ _ c.get-count.ensures c.of.ensures c.if-count-eq0.true) c.answer.ensures end

pub returns-then-count-eq0-clause-to_error : goal.returns-then-count-eq0-clause-to_error
returns-then-count-eq0-clause-to_error g c = λ ended rest output end.
    writes_nothing c.args.self.now c.answer.new.self to_error ended _
    (zero_by c.args.self.now _ _ c.get-count.ensures c.of.ensures c.if-count-eq0.true) c.answer.ensures end

pub returns-in-Ok-clause-to_output : goal.returns-in-Ok-clause-to_output
returns-in-Ok-clause-to_output g c = λ ended rest error end.
    wrote_output c.args.self.now c.answer-in-Ok.new.self c.in-Some.bytes.now ended rest error _ _
    (some_by c.args.self.now _ _ c.get-count.ensures c.of.ensures c.if-count-eq0.false)
    (there_by c.args.self.now c.in-Some.bytes.now _ _ _ _ c.get-count.ensures c.of.ensures c.get.ensures c.of-2.ensures
    c.in-Some.ensures.bytes) (answered_by c.args.self.now c.answer-in-Ok.new.self _ _ c.get-count.ensures
    c.of.ensures c.answer-in-Ok.ensures) c.in-Ok.ensures.all end

pub returns-in-Ok-clause-to_error : goal.returns-in-Ok-clause-to_error
returns-in-Ok-clause-to_error g c = λ ended rest output end.
    wrote_error c.args.self.now c.answer-in-Ok.new.self c.in-Some.bytes.now ended rest output _ _
    (some_by c.args.self.now _ _ c.get-count.ensures c.of.ensures c.if-count-eq0.false)
    (there_by c.args.self.now c.in-Some.bytes.now _ _ _ _ c.get-count.ensures c.of.ensures c.get.ensures c.of-2.ensures
    c.in-Some.ensures.bytes) (answered_by c.args.self.now c.answer-in-Ok.new.self _ _ c.get-count.ensures
    c.of.ensures c.answer-in-Ok.ensures) c.in-Ok.ensures.all end

pub returns-in-Err-clause-to_output : goal.returns-in-Err-clause-to_output
returns-in-Err-clause-to_output g c = λ ended rest error end.
    broke_output c.args.self.now c.in-Some.bytes.now rest error _ _
    (some_by c.args.self.now _ _ c.get-count.ensures c.of.ensures c.if-count-eq0.false)
    (there_by c.args.self.now c.in-Some.bytes.now _ _ _ _ c.get-count.ensures c.of.ensures c.get.ensures c.of-2.ensures
    c.in-Some.ensures.bytes) c.in-Err.ensures.some

pub returns-in-Err-clause-to_error : goal.returns-in-Err-clause-to_error
returns-in-Err-clause-to_error g c = λ ended rest output end.
    broke_error c.args.self.now c.in-Some.bytes.now rest output _ _
    (some_by c.args.self.now _ _ c.get-count.ensures c.of.ensures c.if-count-eq0.false)
    (there_by c.args.self.now c.in-Some.bytes.now _ _ _ _ c.get-count.ensures c.of.ensures c.get.ensures c.of-2.ensures
    c.in-Some.ensures.bytes) c.in-Err.ensures.some

pub returns-in-Err-clause-counted : goal.returns-in-Err-clause-counted
returns-in-Err-clause-counted g c = λ is.
    (some_by c.args.self.now _ _ c.get-count.ensures c.of.ensures c.if-count-eq0.false, c.in-Err.ensures.counted)
