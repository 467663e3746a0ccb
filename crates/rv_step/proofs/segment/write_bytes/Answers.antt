use Rattle.std.proofs.Common.{◌∙◌, length, ap, sym, Some, set}
use Rattle.rv_step.specs.declared.segment.Access.TheVariants.{Write}
use Rattle.rv_step.proofs.Memory.{with_bytes_at_some, with_bytes_at_none, served}
use Rattle.rv_step.proofs.segment.write_bytes.Goals as goal

pub write-requires : goal.write-requires
write-requires c = served Write c.args.address
    (length c.args.bytes.now) c.index-segments-place.result c.args.segments.now c.in-Some.place (sym c.in-Some.ensures)

pub returns-in-Some-clause-written : goal.returns-in-Some-clause-written
returns-in-Some-clause-written c =
    with_bytes_at_some Write c.args.address c.args.bytes.now c.index-segments-place.result c.args.segments.now
    c.in-Some.place (sym c.in-Some.ensures)
    ∙ ap (λ s. Some (set c.args.segments.now c.in-Some.place s)) (sym c.write.ensures)

pub returns-in-None-clause-refused : goal.returns-in-None-clause-refused
returns-in-None-clause-refused c = with_bytes_at_none Write c.args.address c.args.bytes.now c.args.segments.now
    (sym c.in-None.ensures)
