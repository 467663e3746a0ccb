use Rattle.std.proofs.Common.{◌≡◌, drop}
use Rattle.disp_rows.specs.Rows.{cell_in}
use Rattle.disp_rows.proofs.row.cell_in.Given as goal

-- what stands at the column stands behind the cells that were looked at
abbrev pub invariant-loop-cell : goal.invariant-loop-cell
invariant-loop-cell l = cell_in l.cells l.column ≡ cell_in (drop l.cell-index l.cells) l.column
