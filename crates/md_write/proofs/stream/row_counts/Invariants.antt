use Rattle.std.proofs.Common.{◌≡◌, map}
use Rattle.std.specs.List.{range_with_len}
use Rattle.md_write.specs.Stream.{row_count}
use Rattle.md_write.proofs.stream.row_counts.Given as goal

-- the numbers of rows of the tables that were looked at
abbrev pub invariant-loop-number : goal.invariant-loop-number
invariant-loop-number l = l.counts ≡ map (row_count l.tables) (range_with_len 0 l.number)
