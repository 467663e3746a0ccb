-- Numbers that words spell.
use Rattle.std.proofs.Common.{◌≡◌, ◌∙◌, ℕ, ◌<◌, ◌^◌, Bool, true, false, ◌&&◌, List, Option, Some, None, cond, nat_lt}
use Rattle.std.proofs.Common.{refl, ap, sym, arith, decimal, bytes_eq, Result, Ok, Err, subst, lt-ltb}
use Rattle.std.specs.Prelude.{IsUtf8}
use Rattle.std.specs.Str.Parse.{digits_value, ParsesUnsigned}
use Rattle.std.proofs.lemmas.Bool.{and_parts, ltb-true}
use Rattle.std.proofs.lemmas.Fmt.{decimal_is_IsNumeral, parse-decimal, IsAscii-decimal}
use Rattle.std.proofs.lemmas.Slice.Eq.{bytes_eq-Decides}
use Rattle.std.proofs.lemmas.Str.{IsUtf8-from_ascii, IsUtf8-from_is_utf8, is_utf8-from_IsUtf8}
use Rattle.std.specs.Str.{is_utf8}
use Rattle.il_text.specs.Values.{number_below}

-- each number that the word spells was found
abbrev pub IsFound : List ℕ → Option ℕ → Type 0
IsFound word found = (n : ℕ) → n < 2 ^ 64 → word ≡ decimal n → found ≡ Some n

-- whether a word spells a number below a bound
abbrev pub spells : ℕ → List ℕ → ℕ → Bool
spells bound word n = nat_lt n bound && bytes_eq word (decimal n)

spelled : (bound : ℕ) → bound < 2 ^ 64 → (word : List ℕ) (n : ℕ) → spells bound word n ≡ true
    → (n < 2 ^ 64) × (word ≡ decimal n)
spelled bound small word n is =
    let both : (nat_lt n bound ≡ true) × (bytes_eq word (decimal n) ≡ true) =
    and_parts (nat_lt n bound) (bytes_eq word (decimal n)) is in
    let below : n < bound = ltb-true n bound both.0 in
    (omega arith, (bytes_eq-Decides word (decimal n)).0 both.1)

none_by : (t : Bool) (bound : ℕ) → bound < 2 ^ 64 → (word : List ℕ) (v : ℕ) → spells bound word v ≡ t
    → IsFound word None → cond t (Some v) None ≡ None
none_by true bound small word v is h =
    let e = spelled bound small word v is in let no : None ≡ Some v = h v e.0 e.1 in cc
none_by false bound small word v is h = refl

-- where the word spells none
pub not_found : (bound : ℕ) → bound < 2 ^ 64 → (word : List ℕ) → IsFound word None → number_below bound word ≡ None
not_found bound small word h =
    none_by (spells bound word (digits_value 10 word)) bound small word (digits_value 10 word) refl h

-- where it spells one below the bound
pub is_below : (bound : ℕ) → bound < 2 ^ 64 → (word : List ℕ) (n : ℕ) → spells bound word n ≡ true
    → number_below bound word ≡ Some n
is_below bound small word n is =
    let e = spelled bound small word n is in
    let value : digits_value 10 word ≡ n = ap (digits_value 10) e.1 ∙ (decimal_is_IsNumeral n e.0).1 in
    ap (λ v. cond (spells bound word v) (Some v) None) value ∙ ap (λ t. cond t (Some n) None) is

other_by : (t : Bool) (bound : ℕ) → bound < 2 ^ 64 → (word : List ℕ) (v n : ℕ) → spells bound word v ≡ t
    → IsFound word (Some n) → spells bound word n ≡ false → cond t (Some v) None ≡ None
other_by true bound small word v n is h not =
    let e = spelled bound small word v is in
    let same : Some n ≡ Some v = h v e.0 e.1 in
    let equal : n ≡ v = cc in
    let both : spells bound word n ≡ true = ap (spells bound word) equal ∙ is in
    cc
other_by false bound small word v n is h not = refl

-- where the one that was found isn't it
pub not_below : (bound : ℕ) → bound < 2 ^ 64 → (word : List ℕ) (n : ℕ) → IsFound word (Some n)
    → spells bound word n ≡ false → number_below bound word ≡ None
not_below bound small word n h not =
    other_by (spells bound word (digits_value 10 word)) bound small word (digits_value 10 word) n refl h not

-- ---- words as `parse` reads them

pub not_text : (word : List ℕ) → (IsUtf8 word → ⊥) → IsFound word None
not_text word never n small e =
    absurd (never (subst IsUtf8 (sym e) (IsUtf8-from_ascii (decimal n) (IsAscii-decimal n small))))

pub parsed_is : {E : Type 0} (word text : List ℕ) (r : Result ℕ E) (m : ℕ) → text ≡ word → ParsesUnsigned 64 10 text r
    → r ≡ Ok m → IsFound word (Some m)
parsed_is word text r m same h is n small e =
    let number : r ≡ Ok n = parse-decimal 64 n text r small small (same ∙ e) h in cc

pub not_parsed : {E : Type 0} (word text : List ℕ) (r : Result ℕ E) (fault : E) → text ≡ word
    → ParsesUnsigned 64 10 text r → r ≡ Err fault → IsFound word None
not_parsed word text r fault same h is n small e =
    let number : r ≡ Ok n = parse-decimal 64 n text r small small (same ∙ e) h in cc

pub spells_both : (bound n : ℕ) (word : List ℕ) (t : Bool) → n < bound → t ≡ bytes_eq word (decimal n) → t ≡ true
    → spells bound word n ≡ true
spells_both bound n word t less is holds =
    ap (λ b. b && bytes_eq word (decimal n)) (lt-ltb n bound less) ∙ (sym is ∙ holds)

-- ---- UTF-8

pub is_text : (bytes : List ℕ) → IsUtf8 bytes → true ≡ is_utf8 bytes
is_text bytes h = sym (is_utf8-from_IsUtf8 bytes h)

other_text : (t : Bool) (bytes : List ℕ) → is_utf8 bytes ≡ t → (IsUtf8 bytes → ⊥) → false ≡ t
other_text true bytes is never = absurd (never (IsUtf8-from_is_utf8 bytes is))
other_text false bytes is never = refl

pub is_no_text : (bytes : List ℕ) → (IsUtf8 bytes → ⊥) → false ≡ is_utf8 bytes
is_no_text bytes never = other_text (is_utf8 bytes) bytes refl never
