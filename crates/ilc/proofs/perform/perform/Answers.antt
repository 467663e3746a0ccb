use Rattle.std.proofs.Common.{◌≡◌, ◌∙◌, Ok, ap, sym, subst}
use Rattle.ilc.specs.Cause.{CommandOutcome}
use Rattle.ilc.specs.Seen.{StoreSeen, StreamsSeen, store_seen, streams_seen}
use Rattle.ilc.specs.Words.{command_of}
use Rattle.ilc.specs.declared.command.Command.TheVariants.{Dis}
use Rattle.ilc.proofs.perform.perform.Goals as goal

pub returns : goal.returns
returns g c =
    let files = g.F.Files in
    let before : StoreSeen = store_seen (files.told c.args.files.now) (files.asked c.args.files.now)
    (files.calls c.args.files.now) (files.read_faults c.args.files.now) (files.write_faults c.args.files.now) in
    let now : StoreSeen = store_seen (files.told c.dis.new.files) (files.asked c.dis.new.files)
    (files.calls c.dis.new.files) (files.read_faults c.dis.new.files) (files.write_faults c.dis.new.files) in
    let streams : StreamsSeen = streams_seen (g.I.Source.rest c.args.input.now) (g.O.Sink.written c.args.out.now)
    (g.E.Sink.written c.args.err.now) (g.I.Source.faults c.args.input.now) (g.O.Sink.faults c.args.out.now)
    (g.E.Sink.faults c.args.err.now) in
    let streams' : StreamsSeen = streams_seen (g.I.Source.rest c.args.input.now) (g.O.Sink.written c.dis.new.out)
    (g.E.Sink.written c.args.err.now) (g.I.Source.faults c.args.input.now) (g.O.Sink.faults c.dis.new.out)
    (g.E.Sink.faults c.args.err.now) in
    let asked : command_of c.args.words.now ≡ Ok (Dis c.in-Ok-Dis.file) = c.in-Ok-Dis.ensures
    ∙ ap Ok c.in-Ok-Dis.field-0-is in
    subst (λ found. CommandOutcome found before now streams streams' c.dis.result) (sym asked) (
      c.dis.ensures.outcome (g.I.Source.rest c.args.input.now) (g.E.Sink.written c.args.err.now)
          (g.I.Source.faults c.args.input.now) (g.E.Sink.faults c.args.err.now),
      c.dis.ensures.same_files,
    )
