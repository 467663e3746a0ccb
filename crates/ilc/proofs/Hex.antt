-- Hexadecimal digits, one at a time.
use Rattle.std.proofs.Common.{◌≡◌, ◌∙◌, ℕ, zero, suc, ◌+◌, ◌*◌, ◌/◌, ◌%◌, ◌^◌, ◌<◌, ◌≤◌, refl, add-one, [], true, false}
use Rattle.std.proofs.Common.{cond, List, ◌∷◌, arith, ap, sym, nat_eq, eq-eqb, ne_eqb, drop, get_or, length, drop-cons}
use Rattle.std.proofs.Math.Nat.{pow-suc}
use Rattle.std.specs.Fmt.{digits, digits_onto, digit_glyph}
use Rattle.ilc.specs.Line.{hexadecimal}

pub hex_more : (k n : ℕ) (acc : List ℕ) → 16 ≤ n
    → digits_onto (suc k) 16 false n acc ≡ digits_onto k 16 false (n / 16) (digit_glyph false (n % 16) ∷ acc)
hex_more k n acc h =
    let more : nat_eq (n / 16) 0 ≡ false = ne_eqb (n / 16) 0 (omega arith) in
    ap (λ b. cond b (digit_glyph false (n % 16) ∷ acc)
    (digits_onto k 16 false (n / 16) (digit_glyph false (n % 16) ∷ acc))) more

pub hex_last : (k n : ℕ) (acc : List ℕ) → n < 16 → digits_onto (suc k) 16 false n acc ≡ digit_glyph false (n % 16) ∷ acc
hex_last k n acc h =
    let last : nat_eq (n / 16) 0 ≡ true = eq-eqb (n / 16) 0 (omega arith) in
    ap (λ b. cond b (digit_glyph false (n % 16) ∷ acc)
    (digits_onto k 16 false (n / 16) (digit_glyph false (n % 16) ∷ acc))) last

-- the digits from a place on
pub digits_from : (digits : List ℕ) (at digit : ℕ) → at < length digits → get_or digits at 0 ≡ digit
    → drop at digits ≡ digit ∷ drop (at + 1) digits
digits_from digits at digit h e =
    let next : suc at ≡ at + 1 = omega arith in
    drop-cons digits at 0 h ∙ (ap (λ d. d ∷ drop (suc at) digits) e ∙ ap (λ n. digit ∷ drop n digits) next)

-- the whole number, where one digit is left
pub hex_whole : (k n at : ℕ) (digits number : List ℕ) → at < length digits → n < 16
    → get_or digits at 0 ≡ digit_glyph false (n % 16) → digits_onto (suc k) 16 false n (drop (at + 1) digits) ≡ number
    → drop at digits ≡ number
hex_whole k n at digits number h small e whole = digits_from digits at (digit_glyph false (n % 16)) h e ∙
    (sym (hex_last k n (drop (at + 1) digits) small) ∙ whole)

-- one digit more
pub hex_next : (k n at : ℕ) (digits number : List ℕ) → at < length digits → 16 ≤ n
    → get_or digits at 0 ≡ digit_glyph false (n % 16) → digits_onto (suc k) 16 false n (drop (at + 1) digits) ≡ number
    → digits_onto k 16 false (n / 16) (drop at digits) ≡ number
hex_next k n at digits number h big e whole =
    ap (digits_onto k 16 false (n / 16)) (digits_from digits at (digit_glyph false (n % 16)) h e)
    ∙ (sym (hex_more k n (drop (at + 1) digits) big) ∙ whole)

-- where more than one digit is left, there is room for them
pub hex_room : (at n : ℕ) → n < 16 ^ (at + 1) → 16 ≤ n → 0 < at
hex_room zero n h big = absurd (omega arith)
hex_room (suc at) n h big = omega arith

pub hex_left : (at at' n : ℕ) → at ≡ at' + 1 → n < 16 ^ (at + 1) → n / 16 < 16 ^ (at' + 1)
hex_left at at' n e h =
    let whole : 16 ^ (at + 1) ≡ 16 ^ (at' + 1) * 16 = ap (λ k. 16 ^ (k + 1)) e ∙
    (ap (λ k. 16 ^ k) (add-one (at' + 1)) ∙ pow-suc 16 (at' + 1)) in
    omega (arith, whole)

-- all the digits
pub hex_all : (n : ℕ) → digits_onto 64 16 false n [] ≡ hexadecimal n
unfolding digits
hex_all n = refl
