use Rattle.std.proofs.Common.{◌≤◌, ◌≡◌, drop, map}
use Rattle.image_plan.specs.Places.{end_of, table_size}
use Rattle.image_plan.proofs.ends.table_end.Given as goal

abbrev pub invariant-loop-table : goal.invariant-loop-table
invariant-loop-table l = record {
  end : end_of l.begin (map table_size l.tables) ≡ end_of l.at (map table_size (drop l.table-index l.tables));
  above : l.begin ≤ l.at;
}
