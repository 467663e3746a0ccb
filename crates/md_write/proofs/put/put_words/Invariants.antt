use Rattle.std.proofs.Common.{◌≡◌, ◌++◌, drop}
use Rattle.md_write.specs.Written.{words}
use Rattle.md_write.proofs.put.put_words.Given as goal

-- the fields so far, and those that are left
abbrev pub invariant-loop-number : goal.invariant-loop-number
invariant-loop-number l = l.initial.bytes ++ words l.numbers ≡ l.bytes ++ words (drop l.number-index l.numbers)
