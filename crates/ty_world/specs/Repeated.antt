-- Whether something was found, and no number itself.
use Rattle.std.specs.Prelude.{ℕ, ◌==◌, Bool, false, not, Option, Some, None}

abbrev pub is_other : ℕ → Option ℕ → Bool
is_other number None = false
is_other number (Some found) = not (found == number)
