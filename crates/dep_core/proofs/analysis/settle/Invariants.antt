use Rattle.std.proofs.Common.{◌+◌, ◌-◌, length}
use Rattle.dep_core.specs.Kept.{row_by}
use Rattle.dep_core.specs.Marks.{nodes_of}
use Rattle.dep_core.specs.UnderWay.{IsSound, IsUnderWay}
use Rattle.dep_core.proofs.analysis.settle.Given as goal

abbrev pub invariant-loop-place : goal.invariant-loop-place
invariant-loop-place g l = record {
  sound : IsSound (g.R.Rules.is_root l.rules)
      (row_by (g.R.Rules.gives l.rules) (g.R.Rules.awaits l.rules) (g.R.Rules.meets_in l.rules))
      (g.R.Rules.is_own l.rules) (g.R.Rules.depth_of l.rules) g.R.Node.Ord.cmp l.limits.nodes l.limits.depth
      l.marking.nodes.marks l.marking.places;
  under_way : IsUnderWay (g.R.Rules.is_root l.rules) (g.R.Rules.gives l.rules) (g.R.Rules.awaits l.rules)
      (g.R.Rules.meets_in l.rules) (g.R.Rules.can_seek l.rules) (g.R.Rules.can_be_sought l.rules) g.R.Node.Ord.cmp
      (nodes_of l.marking.nodes.marks) l.marking.nodes.work l.pending.waiting l.pending.seeking.items
      l.pending.sought.items;
}

-- each place that is worked on leaves one less, or one more node is marked
abbrev pub decreases-loop-place : goal.decreases-loop-place
decreases-loop-place g l = l.limits.nodes - length (nodes_of l.marking.nodes.marks) + length l.marking.nodes.work
