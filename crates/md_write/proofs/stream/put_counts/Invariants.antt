use Rattle.std.proofs.Common.{◌≡◌, ◌++◌, drop}
use Rattle.md_write.specs.Stream.{counts_bytes}
use Rattle.md_write.proofs.stream.put_counts.Given as goal

-- the numbers so far, and those that are left
abbrev pub invariant-loop-count : goal.invariant-loop-count
invariant-loop-count l =
    l.initial.bytes ++ counts_bytes l.counts ≡ l.bytes ++ counts_bytes (drop l.count-index l.counts)
