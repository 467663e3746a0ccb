use Rattle.std.proofs.Common.{◌≡◌, ◌+◌, ◌≤◌, [], length}
use Rattle.il_text.specs.Reading.{nothing_read, read_from}
use Rattle.il_text.proofs.text.read_text.Given as goal

-- what was read, and the lines that are left, make up all
abbrev pub invariant-loop-end : goal.invariant-loop-end
invariant-loop-end l =
    (read_from nothing_read 1 [] l.text ≡ read_from l.draft l.number [] l.rest)
    × (l.number + length l.rest ≤ length l.text + 1)

abbrev pub decreases-loop-end : goal.decreases-loop-end
decreases-loop-end l = length l.rest
