use Rattle.std.proofs.Common.{◌≡◌, ◌+◌, length}
use Rattle.il_text.specs.Values.{name_from}
use Rattle.il_text.proofs.NameRead.{named}
use Rattle.il_text.proofs.values.name_from.Given as goal

-- the bytes that were read, and those of what is left, make up the name
abbrev pub invariant-loop-left : goal.invariant-loop-left
invariant-loop-left l =
    name_from (length l.word + 1) l.word ≡ named l.name (name_from l.left l.rest)

abbrev pub decreases-loop-left : goal.decreases-loop-left
decreases-loop-left l = l.left
