use Rattle.std.proofs.Common.{◌≡◌, map, take}
use Rattle.core_lib.specs.Rows.{of_field}
use Rattle.core_lib.proofs.making.field_rows.Given as goal

-- the rows so far
abbrev pub invariant-loop-row : goal.invariant-loop-row
invariant-loop-row l = l.made ≡ map of_field (take l.row-index l.rows)
