use Rattle.std.proofs.Common.{◌≡◌, ◌-◌, ◌*◌, ◌++◌, drop}
use Rattle.il_code.specs.Instructions.{targets_of}
use Rattle.il_code.proofs.read.targets.Given as goal

-- those that were read, and what is left, make up the targets
abbrev pub invariant-loop-index : goal.invariant-loop-index
invariant-loop-index l =
    targets_of l.next l.count l.bytes ≡ l.targets ++ targets_of l.next (l.count - l.index) (drop (4 * l.index) l.bytes)
