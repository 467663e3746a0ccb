use Rattle.std.proofs.Common.{◌≡◌, length, take}
use Rattle.cli_layout.proofs.seen.same_extents.Given as goal

abbrev pub invariant-loop-i : goal.invariant-loop-i
invariant-loop-i l = record { same : take l.i l.a ≡ take l.i l.b; size : length l.a ≡ length l.b }
