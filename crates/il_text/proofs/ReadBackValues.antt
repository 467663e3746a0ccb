-- Each value of a module is read back from the word that it is written as.
use Rattle.std.proofs.Common.{◌≡◌, ◌∙◌, ℕ, zero, suc, ◌+◌, ◌-◌, ◌*◌, ◌/◌, ◌%◌, ◌^◌, ◌<◌, ◌≤◌, Bool, true, false, cond}
use Rattle.std.proofs.Common.{not, nat_eq, nat_lt, nat_le, ◌&&◌, List, [], ◌∷◌, ◌++◌, length, take, slice_index}
use Rattle.std.proofs.Common.{Some, None, ℤ, pos, negsuc, refl, ap, arith, decimal, bytes_eq, option_map}
use Rattle.std.proofs.Common.{ne_eqb, lt-ltb, length-append}
use Rattle.std.proofs.lemmas.Bool.{and_parts, and_from, or_from, not-true, lt-leb}
use Rattle.std.proofs.lemmas.Fmt.{decimal_is_IsNumeral}
use Rattle.std.proofs.lemmas.Slice.Eq.{bytes_eq-Decides}
use Rattle.std.proofs.lemmas.Str.Parse.{digit_from_value}
use Rattle.std.specs.Fmt.{signed_decimal}
use Rattle.std.specs.Int.{IsInRange, bytes_high_first}
use Rattle.std.specs.List.{list_all, list_any, flat_map}
use Rattle.std.specs.Result.{result_ok}
use Rattle.std.specs.Str.Parse.{AllDigits, digits_value}
use Rattle.byteorder.specs.Endian.{big_bytes, big_number}
use Rattle.byteorder.specs.Numbers.{big_number-reads_back, length-bytes_high_first}
use Rattle.hex.specs.Hex.{IsBytes, decode_of, decode_sized, encode_upper, encode_with, upper_digits}
use Rattle.hex.proofs.HexLemmas.{decode_of-encode_upper, decode_sized-twice, length-encode_with}
use Rattle.il_text.specs.Words.{is_plain, name_byte, name_word, bytes_word, table_word, token_word, row_word}
use Rattle.il_text.specs.Values.{number_below, negative, whole_in, is_small, bytes_in, sized_bytes}
use Rattle.il_text.specs.Values.{token_in, byte_in, with_table, row_in, escaped, name_byte_in, name_on, name_from}
use Rattle.il_text.specs.Values.{name_in}

-- ---- numbers

pub bytes_same : (bytes : List ℕ) → bytes_eq bytes bytes ≡ true
bytes_same bytes = (bytes_eq-Decides bytes bytes).1 refl

pub number_back : (bound n : ℕ) → n < bound → n < 2 ^ 64 → number_below bound (decimal n) ≡ Some n
number_back bound n less small =
    let value : digits_value 10 (decimal n) ≡ n = (decimal_is_IsNumeral n small).1 in
    ap (λ v. cond (nat_lt v bound && bytes_eq (decimal n) (decimal v)) (Some v) None) value
    ∙ ap (λ b. cond (b && bytes_eq (decimal n) (decimal n)) (Some n) None) (lt-ltb n bound less)
    ∙ ap (λ b. cond b (Some n) None) (bytes_same (decimal n))

-- digits are a number that isn't negative
whole_plain : (bits n : ℕ) (word : List ℕ) → AllDigits 10 word → 0 < length word
    → number_below (2 ^ (bits - 1)) word ≡ Some n → whole_in bits word ≡ Some (pos n)
whole_plain bits n [] digits some e = absurd (omega arith)
whole_plain bits n (first ∷ word) digits some e =
    let range : IsInRange 48 57 first = digit_from_value first digits.0 in
    ap (λ b. cond b (negative (number_below (2 ^ (bits - 1) + 1) word))
    (option_map pos (number_below (2 ^ (bits - 1)) (first ∷ word))))
    (ne_eqb first 45 (λ same. omega (arith, range.0, same)))
    ∙ ap (option_map pos) e

whole_minus : (bits n : ℕ) → n < 2 ^ (bits - 1) → n + 1 < 2 ^ 64
    → whole_in bits (45 ∷ decimal (suc n)) ≡ Some (negsuc n)
whole_minus bits n less small =
    ap negative (number_back (2 ^ (bits - 1) + 1) (suc n) (omega arith) (omega arith))
    ∙ ap (λ b. cond b None (Some (negsuc (suc n - 1)))) (ne_eqb (suc n) 0 (λ same. omega (arith, same)))
    ∙ ap (λ m. Some (negsuc m)) (omega arith)

-- a whole number that has a place in so many bits
abbrev pub IsWhole : ℕ → ℤ → Type 0
IsWhole bits (pos n) = n < 2 ^ (bits - 1)
IsWhole bits (negsuc n) = n < 2 ^ (bits - 1)

pub whole_back : (bits : ℕ) (number : ℤ) → IsWhole bits number → 2 ^ (bits - 1) < 2 ^ 64
    → whole_in bits (signed_decimal number) ≡ Some number
whole_back bits (pos n) place few =
    let is = decimal_is_IsNumeral n (omega arith) in
    whole_plain bits n (decimal n) is.0.1 is.0.0 (number_back (2 ^ (bits - 1)) n place (omega arith))
whole_back bits (negsuc n) place few = whole_minus bits n place (omega arith)

-- ---- bytes

digit_passes : (test : ℕ → Bool) (digits : List ℕ) (k : ℕ) → list_all test digits ≡ true → k < length digits
    → test (slice_index digits k) ≡ true
digit_passes test [] k all inside = absurd (omega arith)
digit_passes test (digit ∷ digits) zero all inside = (and_parts (test digit) (list_all test digits) all).0
digit_passes test (digit ∷ digits) (suc k) all inside =
    digit_passes test digits k (and_parts (test digit) (list_all test digits) all).1 (omega arith)

-- what holds of the sixteen digits holds of those of bytes
pub encoded_all : (test : ℕ → Bool) → list_all test upper_digits ≡ true → (bytes : List ℕ) → IsBytes bytes
    → list_all test (encode_upper bytes) ≡ true
unfolding encode_with
encoded_all test all [] fit = refl
encoded_all test all (byte ∷ bytes) fit =
    let small : byte < 256 = fit 0 in
    let sixteen : length upper_digits ≡ 16 = refl in
    and_from (test (slice_index upper_digits (byte / 16)))
    (test (slice_index upper_digits (byte % 16)) && list_all test (encode_with upper_digits bytes))
    (digit_passes test upper_digits (byte / 16) all (omega (arith, sixteen)))
    (and_from (test (slice_index upper_digits (byte % 16))) (list_all test (encode_with upper_digits bytes))
    (digit_passes test upper_digits (byte % 16) all (omega (arith, sixteen)))
    (encoded_all test all bytes (λ k. fit (suc k))))

none_small : (digits : List ℕ) → list_all (λ digit. not (is_small digit)) digits ≡ true
    → list_any is_small digits ≡ false
none_small [] all = refl
none_small (digit ∷ digits) all =
    let parts = and_parts (not (is_small digit)) (list_all (λ digit. not (is_small digit)) digits) all in
    or_from (is_small digit) (list_any is_small digits) (not-true (is_small digit) parts.0) (none_small digits parts.1)

encoded_large : (bytes : List ℕ) → IsBytes bytes → list_any is_small (encode_upper bytes) ≡ false
encoded_large bytes fit =
    none_small (encode_upper bytes) (encoded_all (λ digit. not (is_small digit)) refl bytes fit)

pub bytes_back : (bytes : List ℕ) → IsBytes bytes → bytes_in (bytes_word bytes) ≡ Some bytes
bytes_back bytes fit =
    ap (λ b. cond b None (result_ok (decode_of (encode_upper bytes)))) (encoded_large bytes fit)
    ∙ ap result_ok (decode_of-encode_upper bytes fit)

sized_back : (bytes : List ℕ) (size : ℕ) → length bytes ≡ size → IsBytes bytes
    → sized_bytes size (encode_upper bytes) ≡ Some bytes
sized_back bytes size same fit =
    let long : length (encode_upper bytes) ≡ 2 * size =
    length-encode_with upper_digits bytes ∙ ap (λ n. 2 * n) same in
    ap (λ b. cond b None (result_ok (decode_sized (encode_upper bytes) size))) (encoded_large bytes fit)
    ∙ ap result_ok (decode_sized-twice (encode_upper bytes) size long ∙ decode_of-encode_upper bytes fit)

-- ---- tokens, tables and rows

byte_of_number : (k x : ℕ) → slice_index (bytes_high_first (suc k) x) 0 < 256
byte_of_number zero x = omega arith
byte_of_number (suc k) x = omega arith

pub high_bytes : (count x : ℕ) → IsBytes (bytes_high_first count x)
high_bytes zero x i = omega arith
high_bytes (suc count) x zero = byte_of_number count x
high_bytes (suc count) x (suc i) = high_bytes count x i

pub token_back : (token : ℕ) → token < 2 ^ 32 → token_in (token_word token) ≡ Some token
token_back token small =
    ap (option_map (big_number 4))
    (sized_back (big_bytes 4 token) 4 (length-bytes_high_first 4 token) (high_bytes 4 token))
    ∙ ap Some (big_number-reads_back 4 token [] small)

pub one_byte : (byte : ℕ) → byte < 256 → IsBytes (byte ∷ [])
one_byte byte small zero = small
one_byte byte small (suc i) = omega arith

pub byte_back : (byte : ℕ) → byte < 256 → byte_in (table_word byte) ≡ Some byte
byte_back byte small =
    ap (option_map (λ bytes. slice_index bytes 0)) (sized_back (byte ∷ []) 1 refl (one_byte byte small))

pub row_back : (table row : ℕ) → table < 256 → row < 2 ^ 32 → row_in (row_word table row) ≡ Some (table, row)
unfolding encode_with
row_back table row small few =
    ap (λ found. with_table found (number_below (2 ^ 32) (decimal row))) (byte_back table small)
    ∙ ap (with_table (Some table)) (number_back (2 ^ 32) row few (omega arith))

-- ---- names

plain_on : (byte : ℕ) (rest : List ℕ) (most : ℕ) (text : List ℕ) → is_plain byte ≡ true → 0 < length rest
    → name_from most rest ≡ Some text → name_from (suc most) (byte ∷ rest) ≡ Some (byte ∷ text)
plain_on byte rest most text plain some more =
    let marks = and_parts (nat_le 0x20 byte && nat_le byte 0x7E) (not (nat_eq byte 34) && not (nat_eq byte 92)) plain in
    let slash : nat_eq byte 92 ≡ false =
    not-true (nat_eq byte 92) (and_parts (not (nat_eq byte 34)) (not (nat_eq byte 92)) marks.1).1 in
    ap (λ b. cond b (cond (bytes_eq (byte ∷ rest) (34 ∷ [])) (Some []) None)
    (name_on (name_from most) (byte ∷ rest) (name_byte_in (byte ∷ rest))))
    (lt-leb (suc (length rest)) 1 (omega arith))
    ∙ ap (λ b. name_on (name_from most) (byte ∷ rest)
    (cond (b && nat_lt 2 (length rest)) (escaped (byte_in (take 2 rest))) (cond (is_plain byte) (Some (byte, 1)) None)))
    slash
    ∙ ap (λ b. name_on (name_from most) (byte ∷ rest) (cond b (Some (byte, 1)) None)) plain
    ∙ ap (option_map (λ bytes. byte ∷ bytes)) more

escaped_on : (byte high low : ℕ) (rest : List ℕ) (most : ℕ) (text : List ℕ) → is_plain byte ≡ false
    → byte_in (high ∷ low ∷ []) ≡ Some byte → 0 < length rest → name_from most rest ≡ Some text
    → name_from (suc most) (92 ∷ high ∷ low ∷ rest) ≡ Some (byte ∷ text)
escaped_on byte high low rest most text other digits some more =
    let word : List ℕ = 92 ∷ high ∷ low ∷ rest in
    ap (λ b. cond b (cond (bytes_eq word (34 ∷ [])) (Some []) None)
    (name_on (name_from most) word (name_byte_in word)))
    (lt-leb (suc (suc (suc (length rest)))) 1 (omega arith))
    ∙ ap (λ b. name_on (name_from most) word
    (cond b (escaped (byte_in (high ∷ low ∷ []))) (cond (is_plain 92) (Some (92, 1)) None)))
    (lt-ltb 2 (suc (suc (length rest))) (omega arith))
    ∙ ap (λ found. name_on (name_from most) word (escaped found)) digits
    ∙ ap (λ b. name_on (name_from most) word (cond b None (Some (byte, 3)))) other
    ∙ ap (option_map (λ bytes. byte ∷ bytes)) more

name_step : (b : Bool) (byte : ℕ) (text : List ℕ) (most : ℕ) → is_plain byte ≡ b → byte < 256
    → name_from most (flat_map name_byte text ++ 34 ∷ []) ≡ Some text
    → name_from (suc most)
    ((cond b (byte ∷ []) (92 ∷ encode_upper (byte ∷ [])) ++ flat_map name_byte text) ++ 34 ∷ []) ≡ Some (byte ∷ text)
unfolding encode_with
name_step true byte text most plain small more =
    plain_on byte (flat_map name_byte text ++ 34 ∷ []) most text plain
    (omega (arith, length-append (flat_map name_byte text) (34 ∷ []))) more
name_step false byte text most other small more =
    escaped_on byte (slice_index upper_digits (byte / 16)) (slice_index upper_digits (byte % 16))
    (flat_map name_byte text ++ 34 ∷ []) most text other (byte_back byte small)
    (omega (arith, length-append (flat_map name_byte text) (34 ∷ []))) more

name_from_back : (text : List ℕ) (most : ℕ) → IsBytes text → length text < most
    → name_from most (flat_map name_byte text ++ 34 ∷ []) ≡ Some text
name_from_back text zero fit enough = absurd (omega arith)
name_from_back [] (suc most) fit enough = refl
name_from_back (byte ∷ text) (suc most) fit enough =
    name_step (is_plain byte) byte text most refl (fit 0)
    (name_from_back text most (λ k. fit (suc k)) (omega arith))

-- a byte of a name has a byte of the word at least
longer_by : (b : Bool) (byte : ℕ) (rest : List ℕ)
    → suc (length rest) ≤ length (cond b (byte ∷ []) (92 ∷ encode_upper (byte ∷ [])) ++ rest)
longer_by true byte rest = omega arith
longer_by false byte rest = omega (arith, length-append (92 ∷ encode_upper (byte ∷ [])) rest)

longer : (text : List ℕ) → length text ≤ length (flat_map name_byte text)
longer [] = omega arith
longer (byte ∷ text) = omega (arith, longer text, longer_by (is_plain byte) byte (flat_map name_byte text))

pub name_back : (text : List ℕ) → IsBytes text → name_in (name_word text) ≡ Some text
name_back text fit =
    let word : List ℕ = flat_map name_byte text ++ 34 ∷ [] in
    name_from_back text (length word + 1) fit
    (omega (arith, longer text, length-append (flat_map name_byte text) (34 ∷ [])))
