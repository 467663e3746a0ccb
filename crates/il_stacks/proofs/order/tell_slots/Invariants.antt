use Rattle.std.proofs.Common.{◌≡◌, drop, length}
use Rattle.il_stacks.specs.Slots.{are_slots_below}
use Rattle.il_stacks.proofs.order.tell_slots.Given as goal

abbrev pub invariant-loop-i : goal.invariant-loop-i
invariant-loop-i l = (length l.slots ≡ length l.others)
    × (are_slots_below l.slots l.others ≡ are_slots_below (drop l.i l.slots) (drop l.i l.others))
