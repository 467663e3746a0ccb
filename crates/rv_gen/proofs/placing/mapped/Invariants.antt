use Rattle.std.proofs.Common.{◌≡◌, take}
use Rattle.rv_gen.specs.Placing.{rows_by}
use Rattle.rv_gen.proofs.placing.mapped.Given as goal

abbrev pub invariant-loop-mark : goal.invariant-loop-mark
invariant-loop-mark l = l.rows ≡ rows_by l.places (take l.mark-index l.marks)
