use Rattle.std.proofs.Common.{◌≡◌, map, take}
use Rattle.core_lib.specs.Rows.{of_blob}
use Rattle.core_lib.proofs.making.blob_rows.Given as goal

-- the rows so far
abbrev pub invariant-loop-row : goal.invariant-loop-row
invariant-loop-row l = l.made ≡ map (λ blob. of_blob blob.now) (take l.row-index l.rows)
