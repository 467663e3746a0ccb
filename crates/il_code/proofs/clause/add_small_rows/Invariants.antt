use Rattle.std.proofs.Common.{◌≡◌, ◌+◌, ◌*◌, ◌++◌, map}
use Rattle.std.specs.List.{range_with_len}
use Rattle.il_code.specs.Clauses.{small_row}
use Rattle.il_code.proofs.clause.add_small_rows.Given as goal

abbrev pub invariant-loop-index : goal.invariant-loop-index
invariant-loop-index l =
    l.rows ≡ l.fn.rows ++ map (λ k. small_row l.bytes (l.first + 12 * k)) (range_with_len 0 l.index)
