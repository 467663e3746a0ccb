use Rattle.std.proofs.Common.{◌≡◌, ◌++◌, ℕ, List, length}
use Rattle.least_flow.specs.Telling.{AreWithin, Told}
use Rattle.least_flow.proofs.solve.tell.Given as goal

-- the facts that aren't left are told
abbrev pub invariant-loop-place : goal.invariant-loop-place
invariant-loop-place g l = record {
  size : length l.table ≡ g.F.Flow.places l.flow;
  within : AreWithin (g.F.Flow.is_within l.flow) l.table;
  told : (done : List (ℕ × g.row.F-Fact.Denot)) × (l.fn.facts.items ≡ l.facts.items ++ done)
      × Told g.F.Flow.is_below (g.F.Flow.is_within l.flow) (g.F.Flow.rank l.flow) done l.fn.table l.table
      l.fn.waiting.items l.waiting.items;
}

abbrev pub decreases-loop-place : goal.decreases-loop-place
decreases-loop-place g l = length l.facts.items
