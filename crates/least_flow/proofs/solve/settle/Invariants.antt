use Rattle.std.proofs.Common.{◌≡◌, ◌+◌, ◌-◌, ◌*◌, length}
use Rattle.least_flow.specs.Telling.{IsUnderWay, heights}
use Rattle.least_flow.proofs.solve.settle.Given as goal

abbrev pub invariant-loop-place : goal.invariant-loop-place
invariant-loop-place g l = record {
  size : length l.table ≡ g.F.Flow.places l.flow;
  under_way : IsUnderWay g.F.Flow.is_below (g.F.Flow.starts l.flow) (g.F.Flow.passes l.flow)
      (g.F.Flow.is_within l.flow) l.table l.waiting.items;
}

-- each look raises a row or leaves one place less to wait
abbrev pub decreases-loop-place : goal.decreases-loop-place
decreases-loop-place g l = 2 *
    (g.F.Flow.places l.flow * (g.F.Flow.most l.flow + 1) - heights (g.F.Flow.rank l.flow) l.table) + length
    l.waiting.items
