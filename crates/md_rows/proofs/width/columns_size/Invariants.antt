use Rattle.std.proofs.Common.{◌≡◌, ◌+◌, ◌*◌, ◌≤◌, drop}
use Rattle.md_rows.specs.Widths.{columns_size}
use Rattle.md_rows.proofs.width.columns_size.Given as goal

-- the sizes of the columns so far, and of those that are left
abbrev pub invariant-loop-column : goal.invariant-loop-column
invariant-loop-column l = record {
  few : l.size ≤ 4 * l.column-index;
  sum : columns_size l.layout l.columns ≡ l.size + columns_size l.layout (drop l.column-index l.columns);
}
