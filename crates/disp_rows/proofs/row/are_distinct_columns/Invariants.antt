use Rattle.std.proofs.Common.{◌↔◌, length}
use Rattle.disp_rows.specs.Rows.{AreDistinctColumns}
use Rattle.disp_rows.proofs.row.are_distinct_columns.Given as goal

-- the cells that are left decide
abbrev pub invariant-loop-cell : goal.invariant-loop-cell
invariant-loop-cell l = AreDistinctColumns l.cells ↔ AreDistinctColumns l.rest

abbrev pub decreases-loop-cell : goal.decreases-loop-cell
decreases-loop-cell l = length l.rest
