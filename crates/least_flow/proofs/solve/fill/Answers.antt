use Rattle.std.proofs.Common.{List, Option, subst}
use Rattle.least_flow.specs.Telling.{Told}
use Rattle.least_flow.proofs.Looking.{begun}
use Rattle.least_flow.proofs.solve.fill.Goals as goal

pub settle-requires-clause-under_way : goal.settle-requires-clause-under_way
settle-requires-clause-under_way g c =
    let flow = c.args.flow.now in
    let table : List (Option g.row.F-Fact.Denot) = c.args.table.now in
    begun g.F.Flow.is_below (g.F.Flow.starts flow) (g.F.Flow.passes flow) (g.F.Flow.is_within flow)
    (g.F.Flow.rank flow) g.met.F.Flow.transitive (g.F.Flow.places flow) c.in_ok-facts.facts.items table
    c.tell.new.table c.tell.new.waiting.items c.requires c.in_ok-facts.ensures.told c.in_ok-facts.ensures.within
    (subst (λ w. Told g.F.Flow.is_below (g.F.Flow.is_within flow) (g.F.Flow.rank flow) c.in_ok-facts.facts.items table
    c.tell.new.table w c.tell.new.waiting.items) c.new-waiting.ensures.items c.in_ok-tell.ensures)
