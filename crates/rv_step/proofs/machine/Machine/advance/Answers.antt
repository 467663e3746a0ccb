use Rattle.std.proofs.Common.{sym, ◌∙◌}
use Rattle.rv_step.specs.Machine.{machine_step}
use Rattle.rv_step.specs.declared.calls.Request.TheVariants.{ReadInput}
use Rattle.rv_step.specs.Machine.{environment_call}
use Rattle.rv_step.proofs.Steps.{answers_same, step_of_instruction, step_of_call, steps_quietly, asks_by, called_one}
use Rattle.rv_step.proofs.machine.Machine.advance.Goals as goal

pub returns-in-Ecall-clause-answers : goal.returns-in-Ecall-clause-answers
returns-in-Ecall-clause-answers g c =
    answers_same (environment_call c.args.self.now) (machine_step c.args.self.now) c.call.result _ _ _ _ _ _
    (step_of_call c.args.self.now c.in-Some.word c.in-Ok.ins (sym c.in-Some.ensures)
    (sym c.in-Ok.ensures.by_parts) c.in-Ecall.is)
    c.call.ensures.answers

pub returns-in-Ecall-clause-read_fault : goal.returns-in-Ecall-clause-read_fault
returns-in-Ecall-clause-read_fault g c = λ is.
    let fault = c.call.ensures.read_fault is in (
      asks_by c.args.self.now ReadInput c.in-Some.word c.in-Ok.ins (sym c.in-Some.ensures)
          (sym c.in-Ok.ensures.by_parts) c.in-Ecall.is fault.0,
      fault.1,
    )

pub returns-in-Ecall-clause-write_fault : goal.returns-in-Ecall-clause-write_fault
returns-in-Ecall-clause-write_fault g c = λ is.
    called_one c.args.self.now c.in-Some.word c.in-Ok.ins _ _ _ _ (sym c.in-Some.ensures)
    (sym c.in-Ok.ensures.by_parts) c.in-Ecall.is (c.call.ensures.write_fault is)

pub returns-in-Ok-perform-clause-answers : goal.returns-in-Ok-perform-clause-answers
returns-in-Ok-perform-clause-answers g c =
    steps_quietly (machine_step c.args.self.now) c.args.at_end.now c.perform.new.self _
    (λ s. step_of_instruction c.args.self.now c.in-Some.word c.in-Ok.ins (sym c.in-Some.ensures)
    (sym c.in-Ok.ensures.by_parts) s ∙ c.in-Ok-perform.ensures.done s)
    c.requires
