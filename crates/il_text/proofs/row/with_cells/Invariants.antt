use Rattle.std.proofs.Common.{◌≡◌, ◌+◌, length}
use Rattle.il_text.specs.Lines.{parts_of}
use Rattle.il_text.specs.Reading.{in_front, cells_from}
use Rattle.il_text.proofs.row.with_cells.Given as goal

-- the cells that were read, and those of the columns that are left, make up all
abbrev pub invariant-loop-column : goal.invariant-loop-column
invariant-loop-column l =
    (in_front l.fn.front (cells_from (parts_of l.line) l.first l.columns)
    ≡ in_front l.cells (cells_from (parts_of l.line) l.index l.rest))
    × (l.index + length l.rest ≡ l.first + length l.columns)

abbrev pub decreases-loop-column : goal.decreases-loop-column
decreases-loop-column l = length l.rest
