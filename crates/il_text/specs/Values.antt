-- Which values words are: each word that is one is how the value is spelled, and no other word is.
use Rattle.std.specs.Prelude.{ℕ, zero, suc, ◌+◌, ◌-◌, ◌^◌, ℤ, pos, negsuc, Bool, ◌==◌, ◌&&◌, nat_le, nat_lt}
use Rattle.std.specs.Prelude.{if◌then◌else◌, List, [], ◌∷◌, length, take, drop, slice_index, decimal, Option, Some}
use Rattle.std.specs.Prelude.{None}
use Rattle.std.specs.List.{list_any}
use Rattle.std.specs.Option.{option_map, option_and_then}
use Rattle.std.specs.Result.{result_ok}
use Rattle.std.specs.Str.{bytes_eq}
use Rattle.std.specs.Str.Parse.{digits_value}
use Rattle.byteorder.specs.Endian.{big_number}
use Rattle.hex.specs.Hex.{decode_of, decode_sized}
use Rattle.il_text.specs.Words.{is_plain}

-- a number below a bound
abbrev pub number_below : ℕ → List ℕ → Option ℕ
number_below bound word =
    if nat_lt (digits_value 10 word) bound && bytes_eq word (decimal (digits_value 10 word))
    then Some (digits_value 10 word) else None

-- a number below 0, whose digits stand behind a `-` (45)
abbrev pub negative : Option ℕ → Option ℤ
negative None = None
negative (Some n) = if n == 0 then None else Some (negsuc (n - 1))

-- a whole number below a bound, with its sign, and no lower than the bound below 0
abbrev pub whole_below : ℕ → List ℕ → Option ℤ
whole_below bound [] = None
whole_below bound (first ∷ digits) =
    if first == 45 then negative (number_below (bound + 1) digits)
    else option_map pos (number_below bound (first ∷ digits))

-- a whole number that has a place in so many bits, with its sign
abbrev pub whole_in : ℕ → List ℕ → Option ℤ
whole_in bits word = whole_below (2 ^ (bits - 1)) word

-- a digit that is a small letter
abbrev pub is_small : ℕ → Bool
is_small byte = nat_le 97 byte

-- the bytes that digits are, two for each
abbrev pub bytes_of_digits : List ℕ → Option (List ℕ)
bytes_of_digits digits = if list_any is_small digits then None else result_ok (decode_of digits)

-- what stands behind a first byte
abbrev pub behind : ℕ → List ℕ → Option (List ℕ)
behind first [] = None
behind first (byte ∷ rest) = if byte == first then Some rest else None

-- bytes, behind an `x` (120)
abbrev pub bytes_in : List ℕ → Option (List ℕ)
bytes_in word = option_and_then bytes_of_digits (behind 120 word)

-- so many bytes that digits are
abbrev pub sized_bytes : ℕ → List ℕ → Option (List ℕ)
sized_bytes size digits = if list_any is_small digits then None else result_ok (decode_sized digits size)

-- a token, behind a `#` (35)
abbrev pub token_in : List ℕ → Option ℕ
token_in word = option_map (big_number 4) (option_and_then (sized_bytes 4) (behind 35 word))

-- the byte that two digits are
abbrev pub byte_in : List ℕ → Option ℕ
byte_in word = option_map (λ bytes. slice_index bytes 0) (sized_bytes 1 word)

-- a row of a table: two digits, a colon (58), and a number
abbrev pub with_table : Option ℕ → Option ℕ → Option (ℕ × ℕ)
with_table None row = None
with_table (Some table) None = None
with_table (Some table) (Some row) = Some (table, row)

abbrev pub row_in : List ℕ → Option (ℕ × ℕ)
row_in word =
    with_table (byte_in (take 2 word)) (option_and_then (number_below (2 ^ 32)) (behind 58 (drop 2 word)))

-- ---- names

-- a byte and how many bytes of a word it takes, if it is spelled by its digits: one that doesn't stand for itself
abbrev pub escaped : Option ℕ → Option (ℕ × ℕ)
escaped None = None
escaped (Some byte) = if is_plain byte then None else Some (byte, 3)

-- The byte of a name that stands at the front of a word, in front of the quote at its end, and how many bytes of the
-- word it takes: a backslash (92) and two digits, or itself.
abbrev pub name_byte_in : List ℕ → Option (ℕ × ℕ)
name_byte_in [] = None
name_byte_in (first ∷ rest) =
    if first == 92 && nat_lt 2 (length rest) then escaped (byte_in (take 2 rest))
    else if is_plain first then Some (first, 1) else None

abbrev pub name_on : (List ℕ → Option (List ℕ)) → List ℕ → Option (ℕ × ℕ) → Option (List ℕ)
name_on more word None = None
name_on more word (Some found) = option_map (λ bytes. found.0 ∷ bytes) (more (drop found.1 word))

-- the bytes of a name, of which there are no more than `most`, up to the quote (34) at its end
abbrev pub name_from : ℕ → List ℕ → Option (List ℕ)
name_from zero word = None
name_from (suc most) word =
    if nat_le (length word) 1 then (if bytes_eq word (34 ∷ []) then Some [] else None)
    else name_on (name_from most) word (name_byte_in word)

-- a name, behind a quote
abbrev pub name_in : List ℕ → Option (List ℕ)
name_in word = option_and_then (λ text. name_from (length text + 1) text) (behind 34 word)
