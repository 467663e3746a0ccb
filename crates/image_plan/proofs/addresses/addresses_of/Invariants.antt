use Rattle.std.proofs.Common.{◌≤◌, drop, length}
use Rattle.image_plan.specs.Found.{TellsNames}
use Rattle.image_plan.proofs.addresses.addresses_of.Given as goal

abbrev pub invariant-loop-left : goal.invariant-loop-left
invariant-loop-left l = record {
  within : l.left ≤ length l.names;
  told : TellsNames (drop l.left l.names) l.found.entries;
}

abbrev pub decreases-loop-left : goal.decreases-loop-left
decreases-loop-left l = l.left
