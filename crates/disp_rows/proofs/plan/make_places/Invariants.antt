use Rattle.std.proofs.Common.{◌<◌, ◌+◌, ℕ, length}
use Rattle.disp_rows.specs.Places.{column_of, HasFree, SameCells}
use Rattle.disp_rows.proofs.plan.make_places.Given as goal

-- the cells that were looked at have their places
abbrev pub invariant-loop-cell : goal.invariant-loop-cell
invariant-loop-cell l = record {
  free : HasFree l.free l.places;
  cells : SameCells l.fn.places l.places;
  reach : (k : ℕ) → k < l.cell-index → l.start + column_of l.cells k < length l.places;
}
