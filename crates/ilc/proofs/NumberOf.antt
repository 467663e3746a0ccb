-- The number that a word is.
use Rattle.std.proofs.Common.{◌≡◌, ◌∙◌, ◌↔◌, ℕ, ◌<◌, ◌≤◌, ◌^◌, Bool, true, false, ◌&&◌, List, Option, Some, None}
use Rattle.std.proofs.Common.{Result, Ok, Err, refl, ap, sym, subst, arith}
use Rattle.std.specs.Bool.{nat_le, if◌then◌else◌}
use Rattle.std.specs.Fmt.{decimal}
use Rattle.std.specs.Str.{bytes_eq}
use Rattle.std.specs.Str.Parse.{digits_value, ParsesUnsigned}
use Rattle.std.proofs.lemmas.Bool.{leb-true, le-leb}
use Rattle.std.proofs.lemmas.Fmt.{decimal_is_IsNumeral, parse-decimal}
use Rattle.std.proofs.lemmas.Slice.Eq.{bytes_eq-Decides}
use Rattle.ilc.specs.Grammar.{number_of}

both : (a b : Bool) → (a && b) ≡ true → (a ≡ true) × (b ≡ true)
both true true e = (refl, refl)
both true false e = (refl, e)
both false b e = (e, cc)

given : (t : Bool) (m n : ℕ) → (if t then Some m else None) ≡ Some n → (t ≡ true) × (m ≡ n)
given true m n e = (refl, cc)
given false m n e = (cc, cc)

none_of : (found : Option ℕ) → ((n : ℕ) → found ≡ Some n → ⊥) → found ≡ None
none_of None never = refl
none_of (Some n) never = absurd (never n refl)

-- the decimal digits of a number are read as that number
pub spells : (most : ℕ) → most < 2 ^ 64 → (word : List ℕ) (n : ℕ) → n ≤ most → word ≡ decimal n
    → number_of most word ≡ Some n
spells most fits word n small e =
    let value : digits_value 10 word ≡ n = ap (digits_value 10) e ∙ (decimal_is_IsNumeral n (omega arith)).1 in
    let low : nat_le n most ≡ true = le-leb n most small in
    let same : bytes_eq word (decimal n) ≡ true = (bytes_eq-Decides word (decimal n)).1 e in
    rw (value, low, same) refl

-- what is read as a number is its decimal digits
pub spelled : (most : ℕ) → most < 2 ^ 64 → (word : List ℕ) (n : ℕ) → number_of most word ≡ Some n
    → (n ≤ most) × (word ≡ decimal n)
spelled most fits word n e =
    let value : ℕ = digits_value 10 word in
    let found : ((nat_le value most && bytes_eq word (decimal value)) ≡ true) × (value ≡ n) = given
    (nat_le value most && bytes_eq word (decimal value)) value n e in
    let tests : (nat_le value most ≡ true) × (bytes_eq word (decimal value) ≡ true) = both _ _ found.0 in (
      subst (λ k. k ≤ most) found.1 (leb-true value most tests.0),
      (bytes_eq-Decides word (decimal value)).0 tests.1 ∙ ap decimal found.1,
    )

pub unspelled : (most : ℕ) → most < 2 ^ 64 → (word : List ℕ) → ((n : ℕ) → n ≤ most → word ≡ decimal n → ⊥)
    → number_of most word ≡ None
unspelled most fits word never = none_of (number_of most word)
    (λ n e. let is = spelled most fits word n e in never n is.0 is.1)

pub spelled_exactly : (most : ℕ) → most < 2 ^ 64 → (word : List ℕ) (found : Option ℕ) → found ≡ number_of most word
    → (n : ℕ) → (found ≡ Some n) ↔ ((n ≤ most) × (word ≡ decimal n))
spelled_exactly most fits word found e n =
    (λ is. spelled most fits word n (sym e ∙ is), λ is. e ∙ spells most fits word n is.0 is.1)

-- `parse` reads a number with its digits
parsed : {E : Type 0} (most : ℕ) → most < 2 ^ 64 → (word text : List ℕ) (r : Result ℕ E) → text ≡ word
    → ParsesUnsigned 64 10 text r → (n : ℕ) → n ≤ most → word ≡ decimal n → r ≡ Ok n
parsed most fits word text r same h n small e = parse-decimal 64 n text r (omega arith) (omega arith) (same ∙ e) h

pub not_parsed : {E : Type 0} (most : ℕ) → most < 2 ^ 64 → (word text : List ℕ) (r : Result ℕ E) (fault : E)
    → text ≡ word → ParsesUnsigned 64 10 text r → r ≡ Err fault → number_of most word ≡ None
not_parsed most fits word text r fault same h is =
    unspelled most fits word (λ n small e. let number : r ≡ Ok n = parsed most fits word text r same h n small e in cc)

pub parsed_other : {E : Type 0} (most : ℕ) → most < 2 ^ 64 → (word text : List ℕ) (r : Result ℕ E) (m : ℕ) → text ≡ word
    → ParsesUnsigned 64 10 text r → r ≡ Ok m → (m ≤ most → word ≡ decimal m → ⊥) → number_of most word ≡ None
parsed_other most fits word text r m same h is never =
    unspelled most fits word (λ n small e.
    let number : r ≡ Ok n = parsed most fits word text r same h n small e in
    let other : n ≡ m = cc in
    never (subst (λ k. k ≤ most) other small) (e ∙ ap decimal other))

-- what `==` of the word and the digits says
pub same_bytes : (a b word digits : List ℕ) (t : Bool) → a ≡ word → b ≡ digits → t ≡ bytes_eq a b → t ≡ true
    → word ≡ digits
same_bytes a b word digits t e f h is = sym e ∙ ((bytes_eq-Decides a b).0 (sym h ∙ is) ∙ f)

pub other_bytes : (a b word digits : List ℕ) (t : Bool) → a ≡ word → b ≡ digits → t ≡ bytes_eq a b → t ≡ false
    → word ≡ digits → ⊥
other_bytes a b word digits t e f h is same =
    let equal : bytes_eq a b ≡ true = (bytes_eq-Decides a b).1 (e ∙ (same ∙ sym f)) in cc
