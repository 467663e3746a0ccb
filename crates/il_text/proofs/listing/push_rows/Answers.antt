use Rattle.std.proofs.Common.{subst, rules, arith}
use Rattle.std.proofs.lemmas.Grind.{common_steps}
use Rattle.std.proofs.lemmas.List.Elements.{All-more}
use Rattle.il_text.specs.Ranges.{RowInRange}
use Rattle.il_text.proofs.listing.push_rows.Goals as goal

pub loop-row-preserved : goal.loop-row-preserved
loop-row-preserved c = record {
  written = first_of (search rules, grind (arith, common_steps));
  in_range =
      All-more RowInRange c.args.rows.now c.loop-row.row-index c.row-item.result c.loop-row-test.true
      c.loop-row.invariant.in_range (subst RowInRange c.row-item.is c.in_ok-push_table_row.ensures.in_range);
}
