use Rattle.std.proofs.Common.{ap, inl, inr, Err, refl, rules}
use Rattle.ilc.specs.Cause.{spent}
use Rattle.ilc.specs.Seen.{StreamsSeen, streams_seen}
use Rattle.ilc.proofs.Counted.{not_counted, counted}
use Rattle.ilc.proofs.Faults.{risen, sink_fails}
use Rattle.ilc.proofs.perform.run.Goals as goal

pub returns-in-Ok : goal.returns-in-Ok
returns-in-Ok g c =
    let ended : StreamsSeen = streams_seen (g.I.Source.rest c.run.new.input) (g.O.Sink.written c.run.new.out)
    (g.E.Sink.written c.run.new.err) (g.I.Source.faults c.run.new.input) (g.O.Sink.faults c.run.new.out)
    (g.E.Sink.faults c.run.new.err) in (
      c.in-Ok.ran.steps,
      ended,
      record {
        within = c.in-Ok.ensures.within;
        new = c.run.new.self;
        ends = c.in-Ok.ensures.ends;
        input_faults = c.in-Ok.ensures.input_faults (λ e. cc);
        output_faults = c.in-Ok.ensures.output_faults (λ e. cc);
        error_faults = c.in-Ok.ensures.error_faults (λ e. cc);
      },
      not_counted c.args.count c.in-Ok.ran.steps ended (search rules),
    )

pub returns-in-Ok-report_count : goal.returns-in-Ok-report_count
returns-in-Ok-report_count g c = (
  c.in-Ok.ran.steps,
  streams_seen (g.I.Source.rest c.run.new.input) (g.O.Sink.written c.run.new.out) (g.E.Sink.written c.run.new.err)
      (g.I.Source.faults c.run.new.input) (g.O.Sink.faults c.run.new.out) (g.E.Sink.faults c.run.new.err),
  record {
    within = c.in-Ok.ensures.within;
    new = c.run.new.self;
    ends = c.in-Ok.ensures.ends;
    input_faults = c.in-Ok.ensures.input_faults (λ e. cc);
    output_faults = c.in-Ok.ensures.output_faults (λ e. cc);
    error_faults = c.in-Ok.ensures.error_faults (λ e. cc);
  },
  counted c.args.count c.in-Ok.ran.steps _ _ (search rules) (
    record { rest = refl; output = refl; input_faults = refl; output_faults = refl },
    c.in-Ok-report_count.ensures.printed,
  ),
)

pub returns-in-Err : goal.returns-in-Err
returns-in-Err g c =
    inr (
      search rules,
      (
        c.in-Ok.ran.steps,
        c.in-Ok.ran.status,
        streams_seen (g.I.Source.rest c.run.new.input) (g.O.Sink.written c.run.new.out)
            (g.E.Sink.written c.run.new.err) (g.I.Source.faults c.run.new.input) (g.O.Sink.faults c.run.new.out)
            (g.E.Sink.faults c.run.new.err),
        record {
          within = c.in-Ok.ensures.within;
          new = c.run.new.self;
          ends = c.in-Ok.ensures.ends;
          input_faults = c.in-Ok.ensures.input_faults (λ e. cc);
          output_faults = c.in-Ok.ensures.output_faults (λ e. cc);
          error_faults = c.in-Ok.ensures.error_faults (λ e. cc);
        },
        (
          record { rest = refl; output = refl; input_faults = refl; output_faults = refl },
          c.in-Err.ensures.broken_off,
          c.in-Err.ensures.failed,
        ),
      ),
    )

pub returns-in-Err-Spent : goal.returns-in-Err-Spent
returns-in-Err-Spent g c =
    let h = c.in-Err-Spent.ensures.spent c.in-Err-Spent.steps (ap Err c.in-Err-Spent.field-0-is) in
    inl (ap spent h.0, c.run.new.self, h.1)

pub returns-in-Err-Trap : goal.returns-in-Err-Trap
returns-in-Err-Trap g c =
    inr (
      c.in-Err-Trap.trap,
      refl,
      c.run.new.self,
      c.in-Err-Trap.ensures.traps c.in-Err-Trap.trap (ap Err c.in-Err-Trap.field-0-is),
    )

pub returns-in-Err-ReadFault : goal.returns-in-Err-ReadFault
returns-in-Err-ReadFault g c =
    let is = ap Err c.in-Err-ReadFault.field-0-is in
    (risen _ _ (c.in-Err-ReadFault.ensures.read_fault is), c.run.new.self, c.in-Err-ReadFault.ensures.read_fails is)

pub returns-in-Err-WriteFault : goal.returns-in-Err-WriteFault
returns-in-Err-WriteFault g c =
    let is = ap Err c.in-Err-WriteFault.field-0-is in
    let before : StreamsSeen = streams_seen (g.I.Source.rest c.args.input.now) (g.O.Sink.written c.args.out.now)
    (g.E.Sink.written c.args.err.now) (g.I.Source.faults c.args.input.now) (g.O.Sink.faults c.args.out.now)
    (g.E.Sink.faults c.args.err.now) in
    let now : StreamsSeen = streams_seen (g.I.Source.rest c.run.new.input) (g.O.Sink.written c.run.new.out)
    (g.E.Sink.written c.run.new.err) (g.I.Source.faults c.run.new.input) (g.O.Sink.faults c.run.new.out)
    (g.E.Sink.faults c.run.new.err) in
    inl (
      c.run.new.self,
      sink_fails c.run.new.self before now (c.in-Err-WriteFault.ensures.write_fault is),
      c.in-Err-WriteFault.ensures.write_fails is,
    )
