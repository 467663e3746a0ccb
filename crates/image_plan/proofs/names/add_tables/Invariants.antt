use Rattle.std.proofs.Common.{◌≡◌, ◌++◌, ◌<◌, ◌^◌, drop, map}
use Rattle.image_plan.specs.Places.{end_of, table_names, table_size}
use Rattle.image_plan.proofs.names.add_tables.Given as goal

abbrev pub invariant-loop-table : goal.invariant-loop-table
invariant-loop-table l = record {
  names : l.initial.names ++ table_names l.begin l.tables ≡ l.names ++ table_names l.at (drop l.table-index l.tables);
  below : end_of l.at (map table_size (drop l.table-index l.tables)) < 2 ^ 32;
}
