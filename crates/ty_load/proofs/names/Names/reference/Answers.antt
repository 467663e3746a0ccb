use Rattle.ty_names.specs.References.{reference}
use Rattle.ty_load.proofs.Through.{taken_off}
use Rattle.ty_load.proofs.names.Names.reference.Goals as goal

pub loop-row-preserved : goal.loop-row-preserved
loop-row-preserved c =
    taken_off c.args.self.now c.args.module c.in-Some.row (reference c.args.self.now c.args.module c.args.row)
    c.loop-row.outer c.in_ok-outer.outer c.loop-row.rows.items c.pop.new.self.items c.loop-row.invariant
    c.in-Some.ensures.items c.in_ok-outer.ensures
