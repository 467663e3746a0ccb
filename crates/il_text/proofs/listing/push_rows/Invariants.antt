use Rattle.std.proofs.Common.{◌≡◌, ◌++◌, take, All}
use Rattle.std.specs.List.{flat_map}
use Rattle.il_text.specs.Words.{text_of}
use Rattle.il_text.specs.Listing.{row_lines}
use Rattle.il_text.specs.Ranges.{RowInRange}
use Rattle.il_text.proofs.listing.push_rows.Given as goal

abbrev pub invariant-loop-row : goal.invariant-loop-row
invariant-loop-row l = record {
  written : l.out ≡ l.fn.out ++ text_of (flat_map (row_lines l.table) (take l.row-index l.rows));
  in_range : All RowInRange (take l.row-index l.rows);
}
