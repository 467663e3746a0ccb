-- The next multiple of a number.
use Rattle.std.proofs.Common.{◌≡◌, ℕ, ◌%◌, ◌≤◌, max, arith, List, [], ◌∷◌}
use Rattle.std.specs.Int.{next_multiple_of}
use Rattle.ty_layout.specs.declared.field.Alignment.{Alignment}
use Rattle.ty_layout.specs.declared.field.Alignment.TheVariants.{One, Two, Four, Eight}
use Rattle.ty_layout.specs.declared.field.Field.{Field}
use Rattle.ty_layout.specs.Fields.{bytes_of, alignment_of}

pub multiple_of_8 : (at : ℕ) → next_multiple_of at 8 % 8 ≡ 0
multiple_of_8 at = omega arith

pub reaches : (at : ℕ) (a : Alignment) → at ≤ next_multiple_of at (bytes_of a)
reaches at a = omega arith

pub is_multiple : (at : ℕ) (a : Alignment) → next_multiple_of at (bytes_of a) % bytes_of a ≡ 0
is_multiple at One = omega arith
is_multiple at Two = omega arith
is_multiple at Four = omega arith
is_multiple at Eight = omega arith

-- a limit that is a multiple of 8 isn't passed by rounding
pub below_limit : (at : ℕ) (a : Alignment) → at ≤ 65536 → next_multiple_of at (bytes_of a) ≤ 65536
below_limit at One h = omega arith
below_limit at Two h = omega arith
below_limit at Four h = omega arith
below_limit at Eight h = omega arith

pub at_least_one : (fields : List Field) → 1 ≤ alignment_of fields
at_least_one [] = omega arith
at_least_one (field ∷ rest) = let r = at_least_one rest in grind arith

pub positive : (fields : List Field) → max 1 (alignment_of fields) ≡ alignment_of fields
positive fields = let r = at_least_one fields in grind arith
