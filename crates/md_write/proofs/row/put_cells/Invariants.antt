use Rattle.std.proofs.Common.{◌≡◌, ◌++◌, drop}
use Rattle.md_write.specs.Rows.{cells_bytes}
use Rattle.md_write.proofs.row.put_cells.Given as goal

-- the columns so far, and those that are left
abbrev pub invariant-loop-index : goal.invariant-loop-index
invariant-loop-index l =
    l.initial.bytes ++ cells_bytes l.heaps l.layout l.columns l.cells
    ≡ l.bytes ++ cells_bytes l.heaps l.layout (drop l.index l.columns) (drop l.index l.cells)
