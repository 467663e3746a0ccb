use Rattle.std.proofs.Common.{◌≡◌, ◌++◌, ◌<◌, ◌^◌, drop, map}
use Rattle.image_plan.specs.Places.{end_of, table_size}
use Rattle.image_plan.specs.Planned.{table_parts}
use Rattle.image_plan.proofs.parts.add_tables.Given as goal

abbrev pub invariant-loop-table : goal.invariant-loop-table
invariant-loop-table l = record {
  parts : l.initial.parts ++ table_parts l.begin l.tables ≡ l.parts ++ table_parts l.at (drop l.table-index l.tables);
  below : end_of l.at (map table_size (drop l.table-index l.tables)) < 2 ^ 32;
}
