use Rattle.std.proofs.Common.{length, ◌+◌}
use Rattle.ty_load.specs.Cycles.{all_ids}
use Rattle.ty_slots.specs.Slots.{slots_by, slots_within}
use Rattle.ty_slots.proofs.Once.{of_walk}
use Rattle.ty_slots.proofs.laws.each_slot_once.Goals as goal

pub returns : goal.returns
unfolding slots_by
returns c world ty slots is = of_walk (slots_within (length (all_ids world) + 1) world ty) slots is
