use Rattle.std.proofs.Common.{◌≡◌, ◌+◌, ◌*◌, ◌≤◌, length, map}
use Rattle.std.specs.List.{range_with_len}
use Rattle.md_rows.specs.Widths.{row_count, tables_below, valid}
use Rattle.md_rows.proofs.header.row_counts.Given as goal

-- the numbers of rows of the tables that were looked at
abbrev pub invariant-loop-table : goal.invariant-loop-table
invariant-loop-table l = record {
  inside : l.at ≤ length l.stream;
  place : l.at ≡ 24 + 4 * tables_below (valid l.stream) l.table;
  counts : l.rows ≡ map (row_count l.stream) (range_with_len 0 l.table);
}
