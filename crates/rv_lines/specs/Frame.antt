-- What the fixed bytes of a frame hold, and what programs keep in registers beside what routines know of.
use Rattle.std.specs.Prelude.{ℕ, ◌+◌, ◌*◌, ◌==◌, if◌then◌else◌, List, [], ◌∷◌, take, Option, Some, None}
use Rattle.lir_core.specs.Frame.{fixed_bytes}

-- at the begin of a frame the address at which its caller goes on
abbrev pub return_at : ℕ
return_at = 0

-- behind it, the homes as the caller had them, as many as the body has
abbrev pub homes_at : ℕ
homes_at = 8

-- and behind all eight its dictionary
abbrev pub dictionary_at : ℕ
dictionary_at = 72

-- the place of a slot in a frame
abbrev pub slot_place : ℕ → ℕ
slot_place slot = fixed_bytes + 8 * slot

-- the first eight variables of a body have homes, which are registers from x18 on
abbrev pub first_home : ℕ
first_home = 18

abbrev pub home_count : ℕ
home_count = 8

-- the home of a slot, if it is one of these variables
abbrev pub home_among : ℕ → List ℕ → ℕ → Option ℕ
home_among register [] slot = None
home_among register (var ∷ vars) slot =
    if var == slot then Some register else home_among (register + 1) vars slot

abbrev pub home : List ℕ → ℕ → Option ℕ
home vars slot = home_among first_home (take home_count vars) slot
