use Rattle.std.proofs.Common.{◌≡◌, ◌++◌, drop}
use Rattle.image_plan.specs.Places.{given_names}
use Rattle.image_plan.proofs.names.add_gifts.Given as goal

abbrev pub invariant-loop-gift : goal.invariant-loop-gift
invariant-loop-gift l = l.initial.names ++ given_names l.at l.gifts ≡ l.names ++ given_names l.at (drop l.gift-index l.gifts)
