use Rattle.std.proofs.Common.{◌≡◌, ◌++◌, take}
use Rattle.il_stacks.proofs.copy.add_copies.Given as goal

abbrev pub invariant-loop-slot : goal.invariant-loop-slot
invariant-loop-slot l = l.list ≡ l.fn.list ++ take l.slot-index l.slots
