use Rattle.std.proofs.Common.{◌≡◌}
use Rattle.ty_load.specs.Cycles.{is_nested_in, is_on_cycle}
use Rattle.ty_texts.proofs.Repeats.{leads}
use Rattle.ty_texts.proofs.repeated.is_around_itself.Given as goal

-- the type leads to itself where the row does in the steps that are left
abbrev pub invariant-loop-left : goal.invariant-loop-left
invariant-loop-left l = is_on_cycle l.names (is_nested_in l.names) l.id ≡ leads l.names l.id l.left l.row

abbrev pub decreases-loop-left : goal.decreases-loop-left
decreases-loop-left l = l.left
