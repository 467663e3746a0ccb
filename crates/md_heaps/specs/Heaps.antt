-- Compressed numbers and the heaps of metadata: ECMA-335 II.23.2 and II.24.2.3 to II.24.2.5.
use Rattle.std.specs.Prelude.{◌≡◌, ℕ, zero, suc, ◌+◌, ◌-◌, ◌*◌, ◌%◌, ◌^◌, ◌==◌, nat_lt, if◌then◌else◌, List, []}
use Rattle.std.specs.Prelude.{◌∷◌, length, take, drop, position, IsUtf8, Option, Some, None}
use Rattle.std.specs.Option.{option_map, option_and_then}
use Rattle.byteorder.specs.Endian.{big_number, big_bytes}

-- the number in the low bits of so many bytes, the highest byte first, and how many bytes these are
abbrev pub in_low_bits : ℕ → ℕ → List ℕ → Option (ℕ × ℕ)
in_low_bits bits size bytes = if nat_lt (length bytes) size then None else Some (big_number size bytes % 2 ^ bits, size)

-- The first byte has the form in its highest bits: 0 and a number of 7 bits, 10 and one of 14 bits in two bytes, or 110
-- and one of 29 bits in four bytes.
abbrev pub by_first : ℕ → List ℕ → Option (ℕ × ℕ)
by_first first bytes =
    if nat_lt first 0x80 then Some (first, 1)
    else if nat_lt first 0xC0 then in_low_bits 14 2 bytes
    else if nat_lt first 0xE0 then in_low_bits 29 4 bytes
    else None

-- the compressed number at the front of bytes, and how many of them it takes (II.23.2)
abbrev pub compressed : List ℕ → Option (ℕ × ℕ)
compressed [] = None
compressed (first ∷ rest) = by_first first (first ∷ rest)

-- the shortest bytes that stand for a number below 2 ^ 29
abbrev pub spelling : ℕ → List ℕ
spelling n =
    if nat_lt n (2 ^ 7) then n ∷ []
    else if nat_lt n (2 ^ 14) then big_bytes 2 (2 ^ 15 + n)
    else big_bytes 4 (2 ^ 31 + 2 ^ 30 + n)

-- the bytes in front of the first zero byte
abbrev pub in_front_of_zero : List ℕ → Option (List ℕ)
in_front_of_zero bytes = option_map (λ n. take n bytes) (position (λ byte. byte == 0) bytes)

-- the text at the front of bytes of the heap of strings, with a zero byte behind it (II.24.2.3)
pub record IsTextInFront (bytes : List ℕ) (text : List ℕ) : Type 0 where
  pub ends : in_front_of_zero bytes ≡ Some text
  pub utf8 : IsUtf8 text

-- so many bytes behind the compressed number that says how many
abbrev pub sized : List ℕ → ℕ × ℕ → Option (List ℕ)
sized bytes size = if nat_lt (length bytes) (size.1 + size.0) then None else Some (take size.0 (drop size.1 bytes))

-- the blob at the front of bytes (II.24.2.4)
abbrev pub blob : List ℕ → Option (List ℕ)
blob bytes = option_and_then (sized bytes) (compressed bytes)

-- the code units of a user string: its blob without the last byte, which says only what the units are like
abbrev pub units : List ℕ → Option (List ℕ)
units bytes =
    if length bytes == 0 then Some []
    else if length bytes % 2 == 0 then None
    else Some (take (length bytes - 1) bytes)

abbrev pub user_string : List ℕ → Option (List ℕ)
user_string bytes = option_and_then units (blob bytes)

-- the GUID of a number of the heap, which begins with 1; 0 stands for none (II.24.2.5)
abbrev pub guid : List ℕ → ℕ → Option (List ℕ)
guid heap zero = Some []
guid heap (suc n) = if nat_lt (length heap) (16 * suc n) then None else Some (take 16 (drop (16 * n) heap))
