use Rattle.std.proofs.Common.{◌≤◌}
use Rattle.std.specs.Mem.Slots.{slots_len, slots_filled, SamePlaces}
use Rattle.std.specs.Mem.Slots.Ownership.{Filled}
use Rattle.raw_pool.proofs.chunk.drop_items.Given as goal

-- the items that are left are in their places
abbrev pub invariant-loop-at : goal.invariant-loop-at
invariant-loop-at g l = record {
  filled : Filled (slots_filled l.slots) l.at l.count;
  within : l.count ≤ slots_len l.slots;
  places : SamePlaces l.fn.slots l.slots;
}
