use Rattle.std.proofs.Common.{◌≡◌, map, take}
use Rattle.core_lib.specs.Rows.{of_interface}
use Rattle.core_lib.proofs.making.interface_rows.Given as goal

-- the rows so far
abbrev pub invariant-loop-row : goal.invariant-loop-row
invariant-loop-row l = l.made ≡ map of_interface (take l.row-index l.rows)
