use Rattle.std.proofs.Common.{◌∙◌, inr, subst}
use Rattle.ilc.specs.Cause.{TextOutcome}
use Rattle.ilc.specs.Seen.{StreamsSeen, streams_seen}
use Rattle.ilc.proofs.perform.dis.Goals as goal

pub returns-in-Ok-list-clause-outcome : goal.returns-in-Ok-list-clause-outcome
returns-in-Ok-list-clause-outcome g c rest error input_faults error_faults =
    let before : StreamsSeen = streams_seen rest (g.O.Sink.written c.args.out.now) error input_faults
    (g.O.Sink.faults c.args.out.now) error_faults in
    let now : StreamsSeen = streams_seen rest (g.O.Sink.written c.print.new.out) error input_faults
    (g.O.Sink.faults c.print.new.out) error_faults in
    inr (
      c.in-Ok.assembly,
      c.in-Ok.ensures.read,
      subst (λ text. TextOutcome text before now c.print.result) (c.as_slice.ensures ∙ c.in-Ok-list.ensures.listing)
          (c.print.ensures rest error input_faults error_faults),
    )
