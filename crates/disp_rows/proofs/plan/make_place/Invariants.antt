use Rattle.std.proofs.Common.{◌≤◌, ◌-◌, ◌+◌, length}
use Rattle.disp_rows.specs.Places.{HasFree, SameCells}
use Rattle.disp_rows.proofs.plan.make_place.Given as goal

abbrev pub invariant-loop-places : goal.invariant-loop-places
invariant-loop-places l = record {
  free : HasFree l.free l.places;
  cells : SameCells l.fn.places l.places;
  longer : length l.fn.places ≤ length l.places;
}

abbrev pub decreases-loop-places : goal.decreases-loop-places
decreases-loop-places l = l.at + 1 - length l.places
