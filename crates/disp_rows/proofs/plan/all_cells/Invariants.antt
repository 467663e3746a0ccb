use Rattle.std.proofs.Common.{◌≡◌, take}
use Rattle.disp_rows.specs.Places.{cells_of}
use Rattle.disp_rows.proofs.plan.all_cells.Given as goal

-- the first cells are there
abbrev pub invariant-loop-at : goal.invariant-loop-at
invariant-loop-at l = l.cells ≡ take l.at (cells_of l.places)
