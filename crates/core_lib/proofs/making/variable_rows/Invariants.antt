use Rattle.std.proofs.Common.{◌≡◌, map, take}
use Rattle.core_lib.specs.Rows.{variable_row}
use Rattle.core_lib.proofs.making.variable_rows.Given as goal

-- the rows so far
abbrev pub invariant-loop-row : goal.invariant-loop-row
invariant-loop-row l = l.made ≡ map variable_row (take l.row-index l.rows)
