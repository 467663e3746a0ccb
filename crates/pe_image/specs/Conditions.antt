-- Conditions of a format in their order, each with the refusal where it doesn't hold.
use Rattle.std.specs.Prelude.{ℕ, ◌+◌, Bool, true, false, nat_le, if◌then◌else◌, List, [], ◌∷◌, length, drop, Option}
use Rattle.std.specs.Prelude.{Some, None, Result, Ok, Err, ◌≡◌}
use Rattle.byteorder.specs.Endian.{little_number}
use Rattle.pe_image.specs.declared.fault.PeFault.{PeFault}

abbrev pub Condition : Type 0
Condition = Bool × PeFault

-- the refusal of the first condition that doesn't hold
abbrev pub first_fault : List Condition → Option PeFault
first_fault [] = None
first_fault (condition ∷ rest) = if condition.0 then first_fault rest else Some condition.1

-- the number in the n bytes at a place, the lowest first
abbrev pub number_at : List ℕ → ℕ → ℕ → ℕ
number_at bytes n at = little_number n (drop at bytes)

-- so many bytes at a place are there
abbrev pub fits : List ℕ → ℕ → ℕ → Bool
fits bytes at size = nat_le (at + size) (length bytes)

-- a result is that of the conditions: a refusal is that of the first that doesn't hold
abbrev pub Answers : {X : Type 0} → List Condition → Result X PeFault → Type 0
Answers conditions (Ok x) = first_fault conditions ≡ None
Answers conditions (Err fault) = first_fault conditions ≡ Some fault
