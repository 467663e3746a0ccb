use Rattle.std.proofs.Common.{◌+◌, ◌-◌, length}
use Rattle.graph_cycles.specs.Marks.{AreSpreading, mark_count}
use Rattle.graph_cycles.proofs.reach.mark_reached.Given as goal

abbrev pub invariant-loop-place : goal.invariant-loop-place
invariant-loop-place l = AreSpreading l.graph l.from l.marks l.waiting.items

-- each place that waits was marked, and is marked once
abbrev pub decreases-loop-place : goal.decreases-loop-place
decreases-loop-place l = length l.marks - mark_count l.marks + length l.waiting.items
