use Rattle.std.proofs.Common.{length}
use Rattle.dep_core.proofs.Waiters.{IsParting}
use Rattle.dep_core.proofs.giving.wait_all.Given as goal

abbrev pub invariant-loop-awaited : goal.invariant-loop-awaited
invariant-loop-awaited g l =
    IsParting g.N.Ord.cmp l.places l.place l.fn.rows l.left.items l.fn.told.items l.told.items l.fn.waiting l.waiting

abbrev pub decreases-loop-awaited : goal.decreases-loop-awaited
decreases-loop-awaited g l = length l.left.items
