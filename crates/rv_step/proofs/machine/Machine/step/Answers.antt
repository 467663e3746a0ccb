use Rattle.std.proofs.Common.{lit<, refl, false, Ok, Err, Some, None}
use Rattle.rv_step.specs.declared.fault.StepFault.TheVariants.{Trap, ReadFault, WriteFault}
use Rattle.rv_step.proofs.Steps.{answers_at, progress_start, progress_more, goes_on, step_ends, step_traps, read_fails}
use Rattle.rv_step.proofs.Steps.{write_fails, asked_first, asked_which}
use Rattle.rv_step.proofs.machine.Machine.step.Goals as goal

pub returns-clause-goes_on : goal.returns-clause-goes_on
returns-clause-goes_on g c = λ is.
    goes_on _ _ 1 _ _ _ (progress_more c.args.self.now c.args.self.now _ 0 false _ _ _ _ (progress_start _ _)
    (answers_at _ _ (Ok None) _ _ _ _ _ _ c.advance.ensures.answers is))

pub returns-clause-ends : goal.returns-clause-ends
returns-clause-ends g c = λ status is.
    step_ends c.args.self.now c.args.self.now _ 0 status false _ _ _ (progress_start _ _)
    (answers_at _ _ (Ok (Some status)) _ _ _ _ _ _ c.advance.ensures.answers is)

pub returns-clause-traps : goal.returns-clause-traps
returns-clause-traps g c = λ trap is.
    step_traps c.args.self.now c.args.self.now _ 0 1 trap false _ _ _ (lit< tt) (progress_start _ _)
    (answers_at _ _ (Err (Trap trap)) _ _ _ _ _ _ c.advance.ensures.answers is)

pub returns-clause-read_fails : goal.returns-clause-read_fails
returns-clause-read_fails g c = λ is.
    read_fails c.args.self.now c.args.self.now _ 0 1 false _ _ _ (lit< tt) (c.advance.ensures.read_fault is).0
    (progress_start _ _) (answers_at _ _ (Err ReadFault) _ _ _ _ _ _ c.advance.ensures.answers is)

pub returns-clause-write_fails : goal.returns-clause-write_fails
returns-clause-write_fails g c = λ is.
    write_fails c.args.self.now c.args.self.now _ 0 1 false _ _ _ (lit< tt)
    (asked_which _ _ _ _ _ (c.advance.ensures.write_fault is)) (progress_start _ _)
    (answers_at _ _ (Err WriteFault) _ _ _ _ _ _ c.advance.ensures.answers is)

pub returns-clause-write_fault : goal.returns-clause-write_fault
returns-clause-write_fault g c = λ is.
    let broken = answers_at _ _ (Err WriteFault) _ _ _ _ _ _ c.advance.ensures.answers is in
    asked_first c.args.self.now c.advance.new.self _ _ _ _ _ _ broken.same_machine refl refl
    (c.advance.ensures.write_fault is)
