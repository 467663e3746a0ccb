use Rattle.std.proofs.Common.{arith}
use Rattle.ty_load.proofs.Implementing.{one_row_more}
use Rattle.ty_load.proofs.interfaces.interfaces_by_type.Goals as goal

pub loop-row-preserved : goal.loop-row-preserved
loop-row-preserved c =
    one_row_more c.args.given.now c.loop-row.row-index c.row-item.result c.index_of.result c.coded_of.result
    c.loop-row.found.entries c.note_interface.new.found.entries (omega arith) c.row-item.is c.index_of.ensures
    c.coded_of.ensures c.in_ok-note_interface.ensures c.loop-row.invariant
