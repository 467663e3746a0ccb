use Rattle.std.proofs.Common.{[]}
use Rattle.ty_load.specs.Refusals.{around}
use Rattle.ty_names.specs.Modules.{row_count}
use Rattle.ty_refused.proofs.Around.{Makes}
use Rattle.ty_refused.proofs.references.rows_around.Given as goal

abbrev pub invariant-loop-left : goal.invariant-loop-left
invariant-loop-left l =
    Makes l.tables (around (row_count l.tables 0x01) l.tables [] l.fn.row) l.rows.keys l.left l.next

abbrev pub decreases-loop-left : goal.decreases-loop-left
decreases-loop-left l = l.left
