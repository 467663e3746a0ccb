use Rattle.std.proofs.Common.{◌≡◌, ◌++◌, map, take, All}
use Rattle.std.specs.List.{flat_map}
use Rattle.il_text.specs.Words.{spaced}
use Rattle.il_text.specs.Listing.{cell_word}
use Rattle.il_text.specs.Ranges.{CellInRange}
use Rattle.il_text.proofs.listing.push_cells.Given as goal

abbrev pub invariant-loop-cell : goal.invariant-loop-cell
invariant-loop-cell l = record {
  written : l.out ≡ l.fn.out ++ flat_map spaced (map cell_word (take l.cell-index l.cells));
  in_range : All CellInRange (take l.cell-index l.cells);
}
