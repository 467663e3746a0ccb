use Rattle.std.proofs.Common.{arith, subst, sym}
use Rattle.dep_core.proofs.Waiters.{IsParting, parting_none, parting_more, parting_all}
use Rattle.dep_core.proofs.giving.wait_all.Goals as goal

pub loop-awaited-init : goal.loop-awaited-init
loop-awaited-init g c =
    subst (λ l. IsParting g.N.Ord.cmp c.args.places.now c.args.place c.args.rows l c.args.told.now.items
    c.args.told.now.items c.args.waiting.now c.args.waiting.now) (sym c.into_vec-left.ensures)
    (parting_none g.N.Ord.cmp c.args.places.now c.args.place c.args.rows c.args.told.now.items c.args.waiting.now)

pub loop-awaited-preserved : goal.loop-awaited-preserved
loop-awaited-preserved g c =
    parting_more g.N.Ord.cmp c.args.places.now c.args.place c.args.rows c.loop-awaited.left.items
    c.pop.new.self.items c.in-Some.awaited c.in-Some.need c.args.told.now.items c.loop-awaited.told.items
    c.wait_one.new.told.items c.args.waiting.now c.loop-awaited.waiting c.wait_one.new.waiting c.in-Some.ensures.items
    c.loop-awaited.invariant c.in_ok-wait_one.ensures

pub returns : goal.returns
returns g c =
    parting_all g.N.Ord.cmp c.args.places.now c.args.place c.args.rows c.loop-awaited.left.items
    c.args.told.now.items c.loop-awaited.told.items c.args.waiting.now c.loop-awaited.waiting
    (omega (arith, c.loop-awaited.left.ok, c.in_default.ensures.cases.0)) c.loop-awaited.invariant
