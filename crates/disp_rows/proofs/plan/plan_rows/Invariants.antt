use Rattle.std.proofs.Common.{map}
use Rattle.disp_rows.specs.Places.{HasFree}
use Rattle.disp_rows.proofs.Planning.{Planned}
use Rattle.disp_rows.proofs.plan.plan_rows.Given as goal

-- the rows that were looked at are in the array
abbrev pub invariant-loop-row : goal.invariant-loop-row
invariant-loop-row l = record {
  free : HasFree l.free l.places;
  planned : Planned l.places l.starts (map (λ r. r.cells) l.fn.rows) l.row-index;
}
