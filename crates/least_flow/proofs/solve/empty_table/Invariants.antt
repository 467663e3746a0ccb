use Rattle.std.proofs.Common.{◌≡◌, replicate, None}
use Rattle.least_flow.proofs.solve.empty_table.Given as goal

abbrev pub invariant-loop-place : goal.invariant-loop-place
invariant-loop-place g l = l.table.items ≡ replicate l._place None
