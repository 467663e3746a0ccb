-- What values are written as are words of a line.
use Rattle.std.proofs.Common.{◌≡◌, ◌∙◌, ℕ, suc, ◌^◌, ◌<◌, ◌≤◌, Bool, true, false, cond, not, nat_eq}
use Rattle.std.proofs.Common.{nat_lt, nat_le, ◌&&◌, List, [], ◌∷◌, ◌++◌, ℤ, pos, negsuc, refl, arith}
use Rattle.std.proofs.Common.{decimal, codes, ne_eqb, lt-ltb, length-append}
use Rattle.std.proofs.lemmas.Bool.{and_parts, and_from, not_from_false, leb-true}
use Rattle.std.proofs.lemmas.Fmt.{decimal_is_IsNumeral}
use Rattle.std.proofs.lemmas.List.Folds.{list_all-append}
use Rattle.std.proofs.lemmas.Str.Parse.{digit_from_value}
use Rattle.std.specs.Fmt.{signed_decimal}
use Rattle.std.specs.Int.{IsInRange}
use Rattle.std.specs.List.{list_all, flat_map}
use Rattle.std.specs.Str.Parse.{AllDigits}
use Rattle.byteorder.specs.Endian.{big_bytes}
use Rattle.hex.specs.Hex.{IsBytes, encode_upper, upper_digits}
use Rattle.hex.proofs.HexLemmas.{length-encode_with}
use Rattle.il_text.specs.Words.{is_plain, name_byte, name_word, bytes_word, table_word, token_word, row_word}
use Rattle.il_text.proofs.ReadBackLines.{IsWord, is_inner, is_in_line, is_quoted, inner_word, quoted_word}
use Rattle.il_text.proofs.ReadBackValues.{encoded_all, one_byte, high_bytes, IsWhole}

is_inner_from : (byte : ℕ) → 34 < byte → (byte ≡ 47 → ⊥) → is_inner byte ≡ true
is_inner_from byte high other =
    and_from (nat_lt 34 byte) (not (nat_eq byte 47)) (lt-ltb 34 byte high)
    (not_from_false (nat_eq byte 47) (ne_eqb byte 47 other))

digits_inner : (digits : List ℕ) → AllDigits 10 digits → list_all is_inner digits ≡ true
digits_inner [] are = refl
digits_inner (digit ∷ digits) are =
    let range : IsInRange 48 57 digit = digit_from_value digit are.0 in
    and_from (is_inner digit) (list_all is_inner digits)
    (is_inner_from digit (omega (arith, range.0)) (λ same. omega (arith, range.0, same))) (digits_inner digits are.1)

pub decimal_word : (n : ℕ) → n < 2 ^ 64 → IsWord (decimal n)
decimal_word n small =
    let is = decimal_is_IsNumeral n small in
    inner_word (decimal n) is.0.0 (digits_inner (decimal n) is.0.1)

pub signed_word : (number : ℤ) → IsWhole 64 number → IsWord (signed_decimal number)
signed_word (pos n) place = decimal_word n (omega (arith, place))
signed_word (negsuc n) place =
    inner_word (45 ∷ decimal (suc n)) (omega arith)
    (digits_inner (decimal (suc n)) (decimal_is_IsNumeral (suc n) (omega (arith, place))).0.1)

encoded_inner : (bytes : List ℕ) → IsBytes bytes → list_all is_inner (encode_upper bytes) ≡ true
encoded_inner bytes fit = encoded_all is_inner refl bytes fit

pub bytes_are_word : (bytes : List ℕ) → IsBytes bytes → IsWord (bytes_word bytes)
bytes_are_word bytes fit = inner_word (bytes_word bytes) (omega arith) (encoded_inner bytes fit)

pub token_is_word : (token : ℕ) → IsWord (token_word token)
token_is_word token =
    inner_word (token_word token) (omega arith) (encoded_inner (big_bytes 4 token) (high_bytes 4 token))

pub table_is_word : (table : ℕ) → table < 256 → IsWord (table_word table)
table_is_word table small =
    inner_word (table_word table) (omega (arith, length-encode_with upper_digits (table ∷ [])))
    (encoded_inner (table ∷ []) (one_byte table small))

pub row_is_word : (table row : ℕ) → table < 256 → row < 2 ^ 64 → IsWord (row_word table row)
row_is_word table row small few =
    inner_word (row_word table row)
    (omega (
      arith,
      length-append (table_word table) (codes ":" ++ decimal row),
      length-encode_with upper_digits (table ∷ []),
    ))
    (list_all-append is_inner (table_word table) (codes ":" ++ decimal row)
    ∙ and_from (list_all is_inner (table_word table)) (list_all is_inner (codes ":" ++ decimal row))
    (encoded_inner (table ∷ []) (one_byte table small))
    (digits_inner (decimal row) (decimal_is_IsNumeral row few).0.1))

-- ---- names

-- what holds of bytes that stand for themselves, of the backslash and of digits holds of a name
name_byte_all : (test : ℕ → Bool) → ((byte : ℕ) → is_plain byte ≡ true → test byte ≡ true) → test 92 ≡ true
    → list_all test upper_digits ≡ true → (b : Bool) (byte : ℕ) → is_plain byte ≡ b → byte < 256
    → list_all test (cond b (byte ∷ []) (92 ∷ encode_upper (byte ∷ []))) ≡ true
name_byte_all test plain slash digits true byte is small =
    and_from (test byte) true (plain byte is) refl
name_byte_all test plain slash digits false byte is small =
    and_from (test 92) (list_all test (encode_upper (byte ∷ []))) slash
    (encoded_all test digits (byte ∷ []) (one_byte byte small))

name_all : (test : ℕ → Bool) → ((byte : ℕ) → is_plain byte ≡ true → test byte ≡ true) → test 92 ≡ true
    → list_all test upper_digits ≡ true → (text : List ℕ) → IsBytes text
    → list_all test (flat_map name_byte text) ≡ true
name_all test plain slash digits [] fit = refl
name_all test plain slash digits (byte ∷ text) fit =
    list_all-append test (name_byte byte) (flat_map name_byte text)
    ∙ and_from (list_all test (name_byte byte)) (list_all test (flat_map name_byte text))
    (name_byte_all test plain slash digits (is_plain byte) byte refl (fit 0))
    (name_all test plain slash digits text (λ k. fit (suc k)))

plain_quoted : (byte : ℕ) → is_plain byte ≡ true → is_quoted byte ≡ true
plain_quoted byte plain =
    let marks = and_parts (nat_le 0x20 byte && nat_le byte 0x7E) (not (nat_eq byte 34) && not (nat_eq byte 92)) plain in
    (and_parts (not (nat_eq byte 34)) (not (nat_eq byte 92)) marks.1).0

plain_in_line : (byte : ℕ) → is_plain byte ≡ true → is_in_line byte ≡ true
plain_in_line byte plain =
    let marks = and_parts (nat_le 0x20 byte && nat_le byte 0x7E) (not (nat_eq byte 34) && not (nat_eq byte 92)) plain in
    let low : 0x20 ≤ byte = leb-true 0x20 byte (and_parts (nat_le 0x20 byte) (nat_le byte 0x7E) marks.0).0 in
    not_from_false (nat_eq byte 10) (ne_eqb byte 10 (λ same. omega (arith, low, same)))

pub name_is_word : (text : List ℕ) → IsBytes text → IsWord (name_word text)
name_is_word text fit =
    quoted_word (flat_map name_byte text) (name_all is_quoted plain_quoted refl refl text fit)
    (name_all is_in_line plain_in_line refl refl text fit)
