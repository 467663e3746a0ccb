use Rattle.std.proofs.Common.{length}
use Rattle.dep_core.specs.Kept.{row_by}
use Rattle.dep_core.proofs.Adding.{IsMarking}
use Rattle.dep_core.proofs.marking.mark_all.Given as goal

-- what isn't left is marked
abbrev pub invariant-loop-mark : goal.invariant-loop-mark
invariant-loop-mark g l =
    IsMarking (g.R.Rules.is_root l.rules)
    (row_by (g.R.Rules.gives l.rules) (g.R.Rules.awaits l.rules) (g.R.Rules.meets_in l.rules))
    (g.R.Rules.is_own l.rules) (g.R.Rules.depth_of l.rules) g.R.Node.Ord.cmp l.limits.nodes l.limits.depth
    l.fn.told.items
    l.told.items l.fn.marking.nodes.marks l.marking.nodes.marks l.marking.places l.fn.marking.nodes.work
    l.marking.nodes.work

abbrev pub decreases-loop-mark : goal.decreases-loop-mark
decreases-loop-mark g l = length l.told.items
