-- Bits that stand for whole numbers in two's complement, and the numbers that bits stand for.
use Rattle.std.specs.Prelude.{ℕ, suc, ◌-◌, ◌%◌, ◌^◌, ℤ, pos, negsuc, nat_lt, if◌then◌else◌}

-- the lowest bits of a whole number
abbrev pub low_bits : ℕ → ℤ → ℕ
low_bits bits (pos n) = n % 2 ^ bits
low_bits bits (negsuc n) = 2 ^ bits - 1 - n % 2 ^ bits

-- the n bits that stand for a number which has a place in them
abbrev pub twos_complement : ℕ → ℤ → ℕ
twos_complement n (pos a) = a
twos_complement n (negsuc a) = 2 ^ n - suc a

-- the number that n bits stand for, the highest of which is the sign
abbrev pub signed : ℕ → ℕ → ℤ
signed n bits = if nat_lt bits (2 ^ (n - 1)) then pos bits else negsuc (2 ^ n - suc bits)
