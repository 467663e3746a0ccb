use Rattle.std.proofs.Common.{◌≡◌, drop}
use Rattle.md_write.specs.Heaps.{with_cells}
use Rattle.md_write.proofs.heaps.add_cells.Given as goal

-- the heaps with the cells so far, and the cells that are left
abbrev pub invariant-loop-index : goal.invariant-loop-index
invariant-loop-index l =
    with_cells l.initial.heaps l.columns l.cells ≡ with_cells l.heaps (drop l.index l.columns) (drop l.index l.cells)
