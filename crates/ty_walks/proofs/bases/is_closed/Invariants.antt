use Rattle.std.proofs.Common.{◌≡◌}
use Rattle.ty_load.specs.Bases.{is_closed, is_closed_within}
use Rattle.ty_walks.proofs.bases.is_closed.Given as goal

-- from here the walk gives the answer
abbrev pub invariant-loop-left : goal.invariant-loop-left
invariant-loop-left l = is_closed_within l.left l.names l.at ≡ is_closed l.names l.fn.id

abbrev pub decreases-loop-left : goal.decreases-loop-left
decreases-loop-left l = l.left
