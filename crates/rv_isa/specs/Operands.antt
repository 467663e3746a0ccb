-- The ranges of the operands that stand in an instruction word, and the bits that stand for a signed one.
use Rattle.std.specs.Prelude.{◌≡◌, ℕ, ◌%◌, ℤ, pos, negsuc, ◌≤ℤ◌}
use Rattle.std.specs.Int.RustNames.{unsigned_abs}

-- a signed number of twelve bits
abbrev pub IsImmediate : ℤ → Type 0
IsImmediate z = (negsuc 2047 ≤ℤ z) × (z ≤ℤ pos 2047)

abbrev pub IsEven : ℤ → Type 0
IsEven z = unsigned_abs z % 2 ≡ 0

-- an even signed number of 13 bits
abbrev pub IsBranchOffset : ℤ → Type 0
IsBranchOffset z = (negsuc 4095 ≤ℤ z) × (z ≤ℤ pos 4094) × IsEven z

-- an even signed number of 21 bits
abbrev pub IsJumpOffset : ℤ → Type 0
IsJumpOffset z = (negsuc 1048575 ≤ℤ z) × (z ≤ℤ pos 1048574) × IsEven z
