use Rattle.disp_rows.specs.Places.{HasFree}
use Rattle.disp_rows.proofs.Laying.{Laid}
use Rattle.disp_rows.proofs.plan.take_places.Given as goal

-- the cells that were looked at have taken their places
abbrev pub invariant-loop-cell : goal.invariant-loop-cell
invariant-loop-cell l = record {
  free : HasFree l.free l.places;
  laid : Laid l.fn.places l.places l.cells l.row l.start l.cell-index;
}
