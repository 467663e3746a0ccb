use Rattle.std.proofs.Common.{refl, inl, inr}
use Rattle.rv_step.specs.Machine.{environment_call, reads, writes, to_output, to_error}
use Rattle.rv_step.specs.declared.calls.Request.TheVariants.{ReadInput, WriteOutput, WriteError}
use Rattle.rv_step.proofs.Steps.{answers_same}
use Rattle.rv_step.proofs.Requests.{call_is, request_is, read_by}
use Rattle.rv_step.proofs.machine.Machine.call.Goals as goal

pub returns-in-ReadInput-clause-answers : goal.returns-in-ReadInput-clause-answers
returns-in-ReadInput-clause-answers g c =
    let m = c.args.self.now in
    answers_same (reads m) (environment_call m) c.read_call.result _ _ _ _ _ _
    (call_is m c.get.result c.get-a0.result ReadInput (read_by m _ _ 17 c.get.ensures c.of-2.ensures)
    (read_by m _ _ 10 c.get-a0.ensures c.of.ensures) c.in-ReadInput.ensures)
    (c.read_call.ensures.answers _ _)

pub returns-in-WriteOutput-clause-answers : goal.returns-in-WriteOutput-clause-answers
returns-in-WriteOutput-clause-answers g c =
    let m = c.args.self.now in
    answers_same (writes m to_output) (environment_call m) c.write_call.result _ _ _ _ _ _
    (call_is m c.get.result c.get-a0.result WriteOutput (read_by m _ _ 17 c.get.ensures c.of-2.ensures)
    (read_by m _ _ 10 c.get-a0.ensures c.of.ensures) c.in-WriteOutput.ensures)
    (c.write_call.ensures.to_output _ _ _ c.requires)

pub returns-in-WriteError-clause-answers : goal.returns-in-WriteError-clause-answers
returns-in-WriteError-clause-answers g c =
    let m = c.args.self.now in
    answers_same (writes m to_error) (environment_call m) c.write_call-in-WriteError.result _ _ _ _ _ _
    (call_is m c.get.result c.get-a0.result WriteError (read_by m _ _ 17 c.get.ensures c.of-2.ensures)
    (read_by m _ _ 10 c.get-a0.ensures c.of.ensures) c.in-WriteError.ensures)
    (c.write_call-in-WriteError.ensures.to_error _ _ _ c.requires)

pub returns-in-ReadInput-clause-read_fault : goal.returns-in-ReadInput-clause-read_fault
returns-in-ReadInput-clause-read_fault g c = λ is.
    let m = c.args.self.now in
    let counted = c.read_call.ensures.counted is in (
      (
        request_is m _ _ ReadInput (read_by m _ _ 17 c.get.ensures c.of-2.ensures)
            (read_by m _ _ 10 c.get-a0.ensures c.of.ensures) c.in-ReadInput.ensures,
        counted.0,
      ),
      counted.1,
    )

pub returns-in-WriteOutput-clause-write_fault : goal.returns-in-WriteOutput-clause-write_fault
returns-in-WriteOutput-clause-write_fault g c = λ is.
    let m = c.args.self.now in
    let counted = c.write_call.ensures.counted is in
    inl (
      (
        request_is m _ _ WriteOutput (read_by m _ _ 17 c.get.ensures c.of-2.ensures)
            (read_by m _ _ 10 c.get-a0.ensures c.of.ensures) c.in-WriteOutput.ensures,
        counted.0,
      ),
      counted.1,
      refl,
    )

pub returns-in-WriteError-clause-write_fault : goal.returns-in-WriteError-clause-write_fault
returns-in-WriteError-clause-write_fault g c = λ is.
    let m = c.args.self.now in
    let counted = c.write_call-in-WriteError.ensures.counted is in
    inr (
      (
        request_is m _ _ WriteError (read_by m _ _ 17 c.get.ensures c.of-2.ensures)
            (read_by m _ _ 10 c.get-a0.ensures c.of.ensures) c.in-WriteError.ensures,
        counted.0,
      ),
      counted.1,
      refl,
    )
