use Rattle.std.proofs.Common.{◌≡◌, ◌++◌, true, drop}
use Rattle.std.specs.List.{list_all}
use Rattle.image_plan.specs.Found.{address_in}
use Rattle.image_plan.specs.Planned.{table_fixes_fit}
use Rattle.image_plan.specs.Written.{table_bytes}
use Rattle.image_plan.proofs.rest.put_tables.Given as goal

abbrev pub invariant-loop-table : goal.invariant-loop-table
invariant-loop-table l = record {
  rest : l.initial.rest ++ table_bytes (address_in l.addresses.found.entries) l.tables
      ≡ l.rest ++ table_bytes (address_in l.addresses.found.entries) (drop l.table-index l.tables);
  fits : list_all table_fixes_fit (drop l.table-index l.tables) ≡ true;
}
