use Rattle.std.proofs.Common.{◌≡◌, ◌++◌, take, All}
use Rattle.std.specs.List.{flat_map}
use Rattle.il_text.specs.Words.{text_of}
use Rattle.il_text.specs.Listing.{table_lines}
use Rattle.il_text.specs.Ranges.{TableInRange}
use Rattle.il_text.proofs.listing.push_tables.Given as goal

abbrev pub invariant-loop-table : goal.invariant-loop-table
invariant-loop-table l = record {
  written : l.out ≡ l.fn.out ++ text_of (flat_map table_lines (take l.table-index l.tables));
  in_range : All TableInRange (take l.table-index l.tables);
}
