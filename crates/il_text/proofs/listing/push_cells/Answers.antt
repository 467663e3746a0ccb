use Rattle.std.proofs.Common.{subst, rules, arith}
use Rattle.std.proofs.lemmas.Grind.{common_steps}
use Rattle.std.proofs.lemmas.List.Elements.{All-more}
use Rattle.il_text.specs.Ranges.{CellInRange}
use Rattle.il_text.proofs.listing.push_cells.Goals as goal

pub loop-cell-preserved : goal.loop-cell-preserved
loop-cell-preserved c = record {
  written = first_of (search rules, grind (arith, common_steps));
  in_range =
      All-more CellInRange c.args.cells.now c.loop-cell.cell-index c.cell-item.result c.loop-cell-test.true
      c.loop-cell.invariant.in_range (subst CellInRange c.cell-item.is c.in_ok-push_cell.ensures.in_range);
}
