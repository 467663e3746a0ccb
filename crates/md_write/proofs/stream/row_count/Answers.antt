use Rattle.std.proofs.Common.{length, ap, arith}
use Rattle.md_write.proofs.Counted.{few_rows}
use Rattle.md_write.proofs.stream.row_count.Goals as goal

pub overflow_cast-result : goal.overflow_cast-result
overflow_cast-result c = record {
  fits = omega (arith, few_rows c.args.tables.now c.args.number c.requires, ap length c.table_rows.ensures);
}
