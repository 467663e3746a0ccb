use Rattle.std.proofs.Common.{◌≡◌, ◌++◌, ◌≤◌, ◌-◌, drop, length}
use Rattle.ty_load.specs.Tokens.{units_of}
use Rattle.ty_members.proofs.tokens.units_of.Given as goal

-- the units so far, and those of what is left, make the whole
abbrev pub invariant-loop-at : goal.invariant-loop-at
invariant-loop-at l = record {
  within : l.at ≤ length l.bytes;
  whole : units_of l.bytes ≡ l.units ++ units_of (drop l.at l.bytes);
}

abbrev pub decreases-loop-at : goal.decreases-loop-at
decreases-loop-at l = length l.bytes - l.at
