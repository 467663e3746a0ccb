-- Whether the number of steps was printed.
use Rattle.std.proofs.Common.{◌≡◌, ℕ, Bool, true, false, refl}
use Rattle.ilc.specs.Cause.{IsCounted}
use Rattle.ilc.specs.Line.{count_line}
use Rattle.ilc.specs.Printed.{Prints}
use Rattle.ilc.specs.Seen.{StreamsSeen}

pub not_counted : (count : Bool) (steps : ℕ) (streams : StreamsSeen) → count ≡ false
    → IsCounted count steps streams streams
not_counted false steps streams e = refl
not_counted true steps streams e = absurd (cc)

pub counted : (count : Bool) (steps : ℕ) (before now : StreamsSeen) → count ≡ true
    → Prints (count_line steps) before now → IsCounted count steps before now
counted true steps before now e p = p
counted false steps before now e p = absurd (cc)
