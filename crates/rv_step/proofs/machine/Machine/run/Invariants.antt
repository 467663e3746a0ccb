use Rattle.std.proofs.Common.{◌≡◌}
use Rattle.rv_step.specs.Outcomes.{outside}
use Rattle.rv_step.proofs.Steps.{Progress}
use Rattle.rv_step.proofs.machine.Machine.run.Given as goal

abbrev pub invariant-loop-done : goal.invariant-loop-done
invariant-loop-done g l =
    let input = g.I.Source in
    let out = g.O.Sink in
    let err = g.E.Sink in
    record {
      progress : Progress l.fn.self l.done l.self l.at_end
          (outside (input.rest l.fn.input) (out.written l.fn.out) (err.written l.fn.err))
          (outside (input.rest l.input) (out.written l.out) (err.written l.err));
      input_faults : input.faults l.input ≡ input.faults l.fn.input;
      output_faults : out.faults l.out ≡ out.faults l.fn.out;
      error_faults : err.faults l.err ≡ err.faults l.fn.err;
    }
