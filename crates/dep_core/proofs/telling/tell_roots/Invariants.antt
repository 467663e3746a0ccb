use Rattle.std.proofs.Common.{None, length}
use Rattle.dep_core.specs.UnderWay.{mark_of}
use Rattle.dep_core.proofs.ToldMarks.{IsTelling}
use Rattle.dep_core.proofs.telling.tell_roots.Given as goal

abbrev pub invariant-loop-node : goal.invariant-loop-node
invariant-loop-node g l =
    IsTelling (λ (n : g.row.N.Denot). mark_of n 0 None None) l.fn.roots l.left.items l.fn.told.items l.told.items

abbrev pub decreases-loop-node : goal.decreases-loop-node
decreases-loop-node g l = length l.left.items
