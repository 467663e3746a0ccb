use Rattle.std.proofs.Common.{set, sym, ap, ◌∙◌}
use Rattle.std.proofs.lemmas.List.{map-set}
use Rattle.std.proofs.lemmas.Option.{get_or_from_slice_get}
use Rattle.std.proofs.Math.Seq.{map-set_same}
use Rattle.dep_core.specs.declared.waiting.WaiterRecord.{WaiterRecord}
use Rattle.dep_core.specs.Awaited.{held_in}
use Rattle.dep_core.proofs.waiting.take_waiter.Goals as goal

pub returns-clause-held : goal.returns-clause-held
returns-clause-held g c =
    let records = c.args.records.now in
    let after : WaiterRecord g.row.N.Denot = record {
      waiter = c.take.new.self;
      waiting = c.get_mut-record.result.now.waiting;
    } in
    map-set (λ (r : WaiterRecord g.row.N.Denot). r.waiter) records c.args.at after
    ∙ ap (set (held_in records) c.args.at) c.take.ensures.after

pub returns-clause-links : goal.returns-clause-links
returns-clause-links g c =
    let records = c.args.records.now in let before = c.get_mut-record.result.now in
    let after : WaiterRecord g.row.N.Denot = record { waiter = c.take.new.self; waiting = before.waiting } in
    map-set_same (λ (r : WaiterRecord g.row.N.Denot). r.waiting) records c.args.at after before
    (ap (λ (r : WaiterRecord g.row.N.Denot). r.waiting)
    (sym (get_or_from_slice_get records c.args.at before before c.get_mut-record.ensures.value)))
