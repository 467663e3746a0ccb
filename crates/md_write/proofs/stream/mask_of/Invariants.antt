use Rattle.std.proofs.Common.{◌≡◌, ◌-◌, ◌^◌, ◌<◌, ◌≤◌, drop, length}
use Rattle.md_write.specs.Stream.{mask_of}
use Rattle.md_write.proofs.stream.mask_of.Given as goal

-- the bits of the tables that were looked at, from the last on
abbrev pub invariant-loop-left : goal.invariant-loop-left
invariant-loop-left l = record {
  inside : l.left ≤ length l.counts;
  value : l.mask ≡ mask_of (drop l.left l.counts);
  bound : l.mask < 2 ^ (length l.counts - l.left);
}

abbrev pub decreases-loop-left : goal.decreases-loop-left
decreases-loop-left l = l.left
