-- A constant in two instructions.
use Rattle.std.proofs.Common.{◌≡◌, ◌∙◌, ℕ, ◌+◌, ◌-◌, ◌*◌, ◌/◌, ◌%◌, ◌^◌, ◌<◌, ◌≤◌, ℤ, pos, negsuc, ◌+ℤ◌, FitsSigned}
use Rattle.std.proofs.Common.{arith, ap, sym, subst, ◌⊎◌, inl, inr}
use Rattle.std.proofs.lemmas.Bool.Decides.{nat_tests}
use Rattle.std.proofs.lemmas.Int.{ints}
use Rattle.std.specs.Int.{cast_signed, w32}
use Rattle.num_core.specs.Bits.{signed, twos_complement}
use Rattle.rv_isa.specs.Operands.{IsImmediate}
use Rattle.num_core.specs.Bits.{low_bits}
use Rattle.rv_step.specs.Machine.{low_word}
use Rattle.ilc_build.specs.Code.{upper, lower}

-- a word whose sign is extended to 64 bits
abbrev extended : ℕ → ℕ
extended word = low_bits 64 (cast_signed w32 word)

extended_cases : (word : ℕ) → word < 2 ^ 32 → ((word < 2 ^ 31) × (extended word ≡ word))
    ⊎ ((2 ^ 31 ≤ word) × (extended word ≡ word + (2 ^ 64 - 2 ^ 32)))
extended_cases word h = grind (arith, nat_tests)

signed_cases : (r : ℕ) → r < 4096 → ((r < 2048) × (signed 12 r ≡ pos r))
    ⊎ ((2048 ≤ r) × (signed 12 r ≡ negsuc (4095 - r)))
signed_cases r h = grind (arith, nat_tests)

-- what has the lowest 32 bits of a number whose distance is a multiple of 2 ^ 32
low_32_is : (z : ℤ) (word j k : ℕ) → word < 2 ^ 32 → z +ℤ pos (j * 2 ^ 32) ≡ pos (word + k * 2 ^ 32)
    → low_bits 32 z ≡ word
low_32_is (pos a) word j k h e = omega (arith, ints)
low_32_is (negsuc a) word j k h e = omega (arith, ints)

pub extended_low : (n : ℤ) → FitsSigned w32 n → extended (low_bits 32 n) ≡ low_bits 64 n
extended_low (pos a) fits =
    let small : a < 2 ^ 31 = fits.sfits in
    elim (extended_cases (a % 2 ^ 32) (omega arith))
    [ inl p ↦ omega (arith, p.0, p.1) | inr p ↦ omega (arith, p.0, p.1) ]
extended_low (negsuc a) fits =
    let small : a < 2 ^ 31 = fits.sfits in
    elim (extended_cases (2 ^ 32 - 1 - a % 2 ^ 32) (omega arith))
    [ inl p ↦ omega (arith, p.0, p.1) | inr p ↦ omega (arith, p.0, p.1) ]

-- the lower part is an immediate, and its bits are those that it was made of
pub lower_is_immediate : (n : ℤ) → IsImmediate (lower n)
lower_is_immediate n =
    let r : ℕ = low_bits 32 n % 4096 in
    elim (signed_cases r (omega arith)) [
      | inl q ↦ subst IsImmediate (sym q.1) (omega (arith, ints), omega (arith, ints))
      | inr q ↦ subst IsImmediate (sym q.1) (omega (arith, ints), omega (arith, ints))
    ]

pub lower_bits : (n : ℤ) → twos_complement 12 (lower n) < 4096
lower_bits n =
    let r : ℕ = low_bits 32 n % 4096 in
    elim (signed_cases r (omega arith)) [
      | inl q ↦ subst (λ z. twos_complement 12 z < 4096) (sym q.1) (omega arith)
      | inr q ↦ subst (λ z. twos_complement 12 z < 4096) (sym q.1) (omega arith)
    ]

same_sum : (v v' : ℕ) (l l' : ℤ) → v ≡ v' → l ≡ l' → low_bits 32 (pos v +ℤ l) ≡ low_bits 32 (pos v' +ℤ l')
same_sum v v' l l' p q = cc

-- the upper part, rounded up where the lower part is negative
carried : (word : ℕ) → word < 2 ^ 32 → ((word + 2048) / 4096 < 2 ^ 20) ⊎ ((word + 2048) / 4096 ≡ 2 ^ 20)
carried word h = grind arith

-- the upper part with its sign extended and the signed lower part have the word as their sum, but for multiples of
-- 2 ^ 32
sum_is : (word : ℕ) → word < 2 ^ 32
    → low_bits 32 (pos (extended (((word + 2048) / 4096 % 2 ^ 20) * 2 ^ 12)) +ℤ signed 12 (word % 4096)) ≡ word
sum_is word h =
    let high : ℕ = ((word + 2048) / 4096 % 2 ^ 20) * 2 ^ 12 in
    let r : ℕ = word % 4096 in
    elim (signed_cases r (omega arith)) [
      | inl q ↦ elim (extended_cases high (omega arith)) [
        | inl p ↦ same_sum _ high _ (pos r) p.1 q.1 ∙ low_32_is (pos high +ℤ pos r) word 0 0 h (omega (arith, ints))
        | inr p ↦ same_sum _ (high + (2 ^ 64 - 2 ^ 32)) _ (pos r) p.1 q.1
            ∙ low_32_is (pos (high + (2 ^ 64 - 2 ^ 32)) +ℤ pos r) word 0 (2 ^ 32 - 1) h (omega (arith, ints))
      ]
      | inr q ↦ elim (carried word h) [
        | inl c ↦ elim (extended_cases high (omega arith)) [
          | inl p ↦ same_sum _ high _ (negsuc (4095 - r)) p.1 q.1
              ∙ low_32_is (pos high +ℤ negsuc (4095 - r)) word 0 0 h (omega (arith, ints))
          | inr p ↦ same_sum _ (high + (2 ^ 64 - 2 ^ 32)) _ (negsuc (4095 - r)) p.1 q.1
              ∙ low_32_is (pos (high + (2 ^ 64 - 2 ^ 32)) +ℤ negsuc (4095 - r)) word 0 (2 ^ 32 - 1) h
              (omega (arith, ints))
        ]
        | inr c ↦ let zero_high : high ≡ 0 = omega arith in
            same_sum _ 0 _ (negsuc (4095 - r)) (ap extended zero_high) q.1
            ∙ low_32_is (pos 0 +ℤ negsuc (4095 - r)) word 1 0 h (omega (arith, ints))
      ]
    ]

low_of_high : (u : ℕ) → u < 2 ^ 20 → low_bits 32 (pos (u * 2 ^ 12)) ≡ u * 2 ^ 12
low_of_high u h = omega arith

low_bits-small : (n : ℤ) → low_bits 32 n < 2 ^ 32
low_bits-small (pos a) = omega arith
low_bits-small (negsuc a) = omega arith

-- the two instructions of a constant give it
pub constant_value : (n : ℤ) → FitsSigned w32 n
    → low_word (pos (low_word (pos (upper n * 2 ^ 12))) +ℤ lower n) ≡ low_bits 64 n
constant_value n fits =
    ap (λ x. extended (low_bits 32 (pos (extended x) +ℤ lower n))) (low_of_high (upper n) (omega arith))
    ∙ ap extended (sum_is (low_bits 32 n) (low_bits-small n))
    ∙ extended_low n fits
