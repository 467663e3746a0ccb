use Rattle.std.proofs.Common.{◌≡◌, ◌-◌, ◌*◌, ◌++◌, drop}
use Rattle.il_text.proofs.Targets.{targets_text}
use Rattle.il_text.proofs.instruction.push_distances.Given as goal

-- the targets that were written, and those that are left, make up all
abbrev pub invariant-loop-index : goal.invariant-loop-index
invariant-loop-index l =
    l.fn.out ++ targets_text l.next l.count l.bytes
    ≡ l.out ++ targets_text l.next (l.count - l.index) (drop (4 * l.index) l.bytes)
