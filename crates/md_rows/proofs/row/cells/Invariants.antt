use Rattle.std.proofs.Common.{◌≡◌, ◌+◌, ◌≤◌, length, drop}
use Rattle.md_rows.specs.Widths.{columns_size}
use Rattle.md_rows.specs.Cells.{bytes_of, cells_at, before}
use Rattle.md_rows.proofs.row.cells.Given as goal

-- the cells that were read, and those that are left
abbrev pub invariant-loop-column : goal.invariant-loop-column
invariant-loop-column l = record {
  inside : l.place + columns_size l.layout (drop l.column-index l.columns) ≤ length l.streams.tables.now;
  read : cells_at (bytes_of l.streams) l.layout l.columns l.at l.back
      ≡ before l.cells (cells_at (bytes_of l.streams) l.layout (drop l.column-index l.columns) l.place l.back);
}
