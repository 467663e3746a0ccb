use Rattle.std.proofs.Common.{◌≡◌, ◌+◌, ◌^◌, ◌<◌, ℕ, None}
use Rattle.disp_rows.specs.Places.{cell_at, column_of}
use Rattle.disp_rows.proofs.plan.fits.Given as goal

-- the cells that were looked at fit
abbrev pub invariant-loop-cell : goal.invariant-loop-cell
invariant-loop-cell l = (k : ℕ) → k < l.cell-index → (l.start + column_of l.cells k < 2 ^ 32)
    × (cell_at l.places (l.start + column_of l.cells k) ≡ None)
