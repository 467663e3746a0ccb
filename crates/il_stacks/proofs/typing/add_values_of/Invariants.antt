use Rattle.std.proofs.Common.{◌≡◌, drop, fold}
use Rattle.std.specs.List.{flat_map}
use Rattle.il_stacks.specs.Typings.{added, values_of_slot}
use Rattle.il_stacks.proofs.typing.add_values_of.Given as goal

abbrev pub invariant-loop-slot : goal.invariant-loop-slot
invariant-loop-slot l =
    fold added l.fn.values (flat_map values_of_slot l.slots)
    ≡ fold added l.values (flat_map values_of_slot (drop l.slot-index l.slots))
