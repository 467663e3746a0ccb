use Rattle.std.proofs.Common.{◌≡◌, ◌+◌, [], drop, None}
use Rattle.ilc.specs.Words.{items_from, reading}
use Rattle.ilc.proofs.reading.read_items.Given as goal

-- what is left is read from here on
abbrev pub invariant-loop-index : goal.invariant-loop-index
invariant-loop-index l =
    items_from l.command 1 (reading [] None) l.words
    ≡ items_from l.command (l.index + 1) l.reading (drop l.index l.words)
