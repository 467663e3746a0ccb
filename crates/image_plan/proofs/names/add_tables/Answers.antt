use Rattle.std.proofs.Common.{◌+◌, ◌<◌, ◌^◌, arith}
use Rattle.image_plan.specs.Places.{table_size}
use Rattle.image_plan.proofs.Ending.{here_within}
use Rattle.image_plan.proofs.names.add_tables.Goals as goal

pub table_size-at-requires : goal.table_size-at-requires
table_size-at-requires c =
    let within : c.loop-table.at + table_size c.table-item.result < 2 ^ 32 =
    here_within table_size c.loop-table.at (2 ^ 32) c.loop-table.table-index c.table-item.result c.args.tables.now
    c.loop-table-test.true c.table-item.is c.loop-table.invariant.below in
    omega (arith, within)

pub overflow_add-at : goal.overflow_add-at
overflow_add-at c =
    let within : c.loop-table.at + table_size c.table-item.result < 2 ^ 32 =
    here_within table_size c.loop-table.at (2 ^ 32) c.loop-table.table-index c.table-item.result c.args.tables.now
    c.loop-table-test.true c.table-item.is c.loop-table.invariant.below in
    record { fits = omega (arith, within, c.table_size-at.ensures) }
