use Rattle.std.proofs.Common.{◌≡◌, ◌++◌, length}
use Rattle.core_lib.proofs.making.listed.Given as goal

-- the items that were moved, and those that are left
abbrev pub invariant-loop-item : goal.invariant-loop-item
invariant-loop-item g l = l.list ++ l.left.items ≡ l.fn.items.items

abbrev pub decreases-loop-item : goal.decreases-loop-item
decreases-loop-item g l = length l.left.items
