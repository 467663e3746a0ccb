use Rattle.std.proofs.Common.{arith, refl, ◌∙◌, ◌≡◌, ◌<◌, Ok, Err, Some, None, ap}
use Rattle.ilc_io.specs.Count.{next_count}
use Rattle.rv_step.specs.Steps.{run_fault}
use Rattle.rv_step.specs.declared.fault.RunFault.TheVariants.{Trap, ReadFault, WriteFault}
use Rattle.rv_step.proofs.Steps.{progress_start, progress_more, progress_spent, step_ends, fault_traps, fault_reads}
use Rattle.rv_step.proofs.Steps.{fault_writes, answers_at, write_keeps, run_write_fault, run_read_fault, told}
use Rattle.rv_step.proofs.Steps.{asked_first, asked_which}
use Rattle.rv_step.proofs.machine.Machine.run.Goals as goal

pub loop-done-init : goal.loop-done-init
loop-done-init g c = record {
  progress = progress_start _ _;
  input_faults = refl;
  output_faults = refl;
  error_faults = refl;
}

pub loop-done-preserved : goal.loop-done-preserved
loop-done-preserved g c = record {
  progress = progress_more _ _ _ _ _ _ _ _ _ c.loop-done.invariant.progress
      (answers_at _ _ (Ok None) _ _ _ _ _ _ c.advance.ensures.answers (cc));
  input_faults = c.advance.ensures.input_faults (λ e. cc) ∙ c.loop-done.invariant.input_faults;
  output_faults = c.advance.ensures.output_faults (λ e. cc) ∙ c.loop-done.invariant.output_faults;
  error_faults = c.advance.ensures.error_faults (λ e. cc) ∙ c.loop-done.invariant.error_faults;
}

pub returns-in-Ok-Some-clause-ends : goal.returns-in-Ok-Some-clause-ends
returns-in-Ok-Some-clause-ends g c =
    step_ends _ _ _ _ c.in-Ok-Some.status _ _ _ _ c.loop-done.invariant.progress
    (answers_at _ _ (Ok (Some c.in-Ok-Some.status)) _ _ _ _ _ _ c.advance.ensures.answers (cc))

pub returns-in-Err-clause-traps : goal.returns-in-Err-clause-traps
returns-in-Err-clause-traps g c = λ trap is.
    let named : run_fault c.in-Err.fault ≡ Trap trap = cc in
    let lt : c.loop-done.done < c.args.steps = c.loop-done-test.true in
    fault_traps c.in-Err.fault _ _ _ _ _ trap _ _ _ _ _ named lt c.loop-done.invariant.progress c.in-Err.ensures.answers

pub returns-in-Err-clause-read_fails : goal.returns-in-Err-clause-read_fails
returns-in-Err-clause-read_fails g c = λ is.
    let named : run_fault c.in-Err.fault ≡ ReadFault = cc in
    let lt : c.loop-done.done < c.args.steps = c.loop-done-test.true in
    fault_reads c.in-Err.fault _ _ _ _ _ _ _ _ _ _ named lt
    (λ e. (c.in-Err.ensures.read_fault (ap Err e)).0) c.loop-done.invariant.progress c.in-Err.ensures.answers

pub returns-in-Err-clause-write_fails : goal.returns-in-Err-clause-write_fails
returns-in-Err-clause-write_fails g c = λ is.
    let named : run_fault c.in-Err.fault ≡ WriteFault = cc in
    let lt : c.loop-done.done < c.args.steps = c.loop-done-test.true in
    fault_writes c.in-Err.fault _ _ _ _ _ _ _ _ _ _ named lt
    (λ e. asked_which _ _ _ _ _ (c.in-Err.ensures.write_fault
    (ap Err e))) c.loop-done.invariant.progress c.in-Err.ensures.answers

pub returns-in-Err-clause-write_fault : goal.returns-in-Err-clause-write_fault
returns-in-Err-clause-write_fault g c = λ is.
    let named : run_fault c.in-Err.fault ≡ WriteFault = cc in
    let same = run_write_fault c.in-Err.fault named in
    asked_first c.loop-done.self c.advance.new.self _ _ _ _ _ _
    (write_keeps c.in-Err.fault _ _ _ _ _ _ _ same c.in-Err.ensures.answers)
    c.loop-done.invariant.output_faults c.loop-done.invariant.error_faults (c.in-Err.ensures.write_fault (ap Err same))

pub returns-clause-spent : goal.returns-clause-spent
returns-clause-spent g c = λ done is.
    let all : c.loop-done.done ≡ c.args.steps = omega (arith, c.loop-done.auto.done-end, c.loop-done-test.false) in
    let same : done ≡ c.args.steps = cc in
    (same, progress_spent _ _ _ _ _ _ _ all c.loop-done.invariant.progress)

pub returns-in-Err-clause-read_fault : goal.returns-in-Err-clause-read_fault
returns-in-Err-clause-read_fault g c = λ is.
    let named : run_fault c.in-Err.fault ≡ ReadFault = cc in
    (c.in-Err.ensures.read_fault (ap Err (run_read_fault c.in-Err.fault named))).1
    ∙ ap next_count c.loop-done.invariant.input_faults

pub returns-in-Err-clause-input_faults : goal.returns-in-Err-clause-input_faults
returns-in-Err-clause-input_faults g c = λ other.
    let told_so : c.from.result ≡ run_fault c.in-Err.fault = c.from.ensures in
    c.in-Err.ensures.input_faults (λ e. other (ap Err told_so ∙ told _ _ e)) ∙ c.loop-done.invariant.input_faults

pub returns-in-Err-clause-output_faults : goal.returns-in-Err-clause-output_faults
returns-in-Err-clause-output_faults g c = λ other.
    let told_so : c.from.result ≡ run_fault c.in-Err.fault = c.from.ensures in
    c.in-Err.ensures.output_faults (λ e. other (ap Err told_so ∙ told _ _ e)) ∙ c.loop-done.invariant.output_faults

pub returns-in-Err-clause-error_faults : goal.returns-in-Err-clause-error_faults
returns-in-Err-clause-error_faults g c = λ other.
    let told_so : c.from.result ≡ run_fault c.in-Err.fault = c.from.ensures in
    c.in-Err.ensures.error_faults (λ e. other (ap Err told_so ∙ told _ _ e)) ∙ c.loop-done.invariant.error_faults
