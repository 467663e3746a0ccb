use Rattle.std.proofs.Common.{◌≡◌, ◌+◌, ◌-◌}
use Rattle.il_text.specs.Lines.{parts_of}
use Rattle.il_text.specs.Reading.{in_front, distances_from}
use Rattle.il_text.proofs.operand.with_targets.Given as goal

-- the distances that were read, and those of the targets that are left, make up all
abbrev pub invariant-loop-index : goal.invariant-loop-index
invariant-loop-index l =
    in_front l.fn.front (distances_from (parts_of l.line) l.next l.count 2)
    ≡ in_front l.bytes (distances_from (parts_of l.line) l.next (l.count - l.index) (l.index + 2))
