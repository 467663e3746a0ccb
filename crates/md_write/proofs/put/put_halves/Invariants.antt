use Rattle.std.proofs.Common.{◌≡◌, ◌++◌, drop}
use Rattle.md_write.specs.Written.{halves}
use Rattle.md_write.proofs.put.put_halves.Given as goal

-- the fields so far, and those that are left
abbrev pub invariant-loop-number : goal.invariant-loop-number
invariant-loop-number l = l.initial.bytes ++ halves l.numbers ≡ l.bytes ++ halves (drop l.number-index l.numbers)
