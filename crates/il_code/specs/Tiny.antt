-- Bodies with a tiny header: ECMA-335 II.25.4.2.
use Rattle.std.specs.Prelude.{◌≡◌, ℕ, ◌+◌, ◌/◌, ◌%◌, ◌==◌, min, if◌then◌else◌, List, [], ◌∷◌, length, Result, Ok, Err}
use Rattle.il_code.specs.declared.read.HeaderFault.{HeaderFault}
use Rattle.il_code.specs.declared.read.HeaderFault.TheVariants.{BadHeader}

-- The code behind a tiny header, which has the low bits 10 and the size of the code in the upper six, or the
-- first offset at which a byte is wrong, missing or left over.
abbrev pub tiny_body : List ℕ → Result (List ℕ) ℕ
tiny_body [] = Err 0
tiny_body (header ∷ code) =
    if header % 4 == 2
    then if length code == header / 4 then Ok code else Err (min (length code) (header / 4) + 1)
    else Err 0

-- a fault tells the offset that a reading gives
abbrev pub at_offset : HeaderFault → Result (List ℕ) ℕ → Type 0
at_offset (BadHeader offset) reading = reading ≡ Err offset
