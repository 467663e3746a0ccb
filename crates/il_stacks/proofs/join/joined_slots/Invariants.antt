use Rattle.std.proofs.Common.{◌≡◌, ◌++◌, drop}
use Rattle.il_stacks.specs.Slots.{joined_slots}
use Rattle.il_stacks.proofs.join.joined_slots.Given as goal

abbrev pub invariant-loop-i : goal.invariant-loop-i
invariant-loop-i l =
    joined_slots l.slots l.others ≡ l.list ++ joined_slots (drop l.i l.slots) (drop l.i l.others)
