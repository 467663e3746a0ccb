use Rattle.std.proofs.Common.{All, subst, rules, arith}
use Rattle.std.proofs.lemmas.Grind.{common_steps}
use Rattle.std.proofs.lemmas.List.Elements.{All-more}
use Rattle.il_text.specs.Ranges.{RowInRange, TableInRange}
use Rattle.il_text.proofs.listing.push_tables.Goals as goal

pub loop-table-preserved : goal.loop-table-preserved
loop-table-preserved c =
    let rows : All RowInRange c.table-item.result.rows =
    subst (All RowInRange) c.as_slice.ensures c.in_ok-push_rows.ensures.in_range.1 in
    let table : TableInRange c.table-item.result = (c.in_ok-push_rows.ensures.in_range.0, rows) in
    record {
      written = first_of (search rules, grind (arith, common_steps));
      in_range =
          All-more TableInRange c.args.tables.now c.loop-table.table-index c.table-item.result c.loop-table-test.true
          c.loop-table.invariant.in_range (subst TableInRange c.table-item.is table);
    }
