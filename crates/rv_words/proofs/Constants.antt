-- The words that the instructions of constants put together. The middle part is as in ilc_build, whose own code of
-- constants goes away.
use Rattle.std.proofs.Common.{◌≡◌, ◌∙◌, ◌⊎◌, inl, inr, ℕ, ◌+◌, ◌-◌, ◌*◌, ◌/◌, ◌%◌, ◌^◌, ◌<◌, ◌≤◌, ℤ, pos, negsuc}
use Rattle.std.proofs.Common.{◌+ℤ◌, true, arith, ap}
use Rattle.std.specs.Int.RustNames.{bit_or}
use Rattle.std.proofs.lemmas.Nat.{or_shifted}
use Rattle.std.proofs.lemmas.Bool.Decides.{nat_tests}
use Rattle.std.proofs.lemmas.Int.{ints}
use Rattle.std.specs.Int.{cast_signed, w32}
use Rattle.num_core.specs.Bits.{low_bits, signed}
use Rattle.rv_step.specs.Machine.{low_word}
use Rattle.rt_code.specs.Code.{lower, upper}
use Rattle.rv_lines.specs.Operands.{is_of_12_bits, is_of_32_bits}

-- ---- 12 bits

of_12_cases : (word : ℕ) → is_of_12_bits word ≡ true → (word < 2048) ⊎ (2 ^ 64 - 2049 < word)
of_12_cases word t = grind (arith, nat_tests)

signed_cases : (r : ℕ) → r < 4096 → ((r < 2048) × (signed 12 r ≡ pos r))
    ⊎ ((2048 ≤ r) × (signed 12 r ≡ negsuc (4095 - r)))
signed_cases r h = grind (arith, nat_tests)

pub of_12 : (word : ℕ) → word < 2 ^ 64 → is_of_12_bits word ≡ true
    → low_bits 64 (pos 0 +ℤ lower (word % 2 ^ 32)) ≡ word
of_12 word h t =
    let r : ℕ = word % 2 ^ 32 % 4096 in
    elim (of_12_cases word t) [
      | inl small ↦ elim (signed_cases r (omega arith)) [
        | inl q ↦ ap (λ z. low_bits 64 (pos 0 +ℤ z)) q.1 ∙ omega (arith, small)
        | inr q ↦ absurd (omega (arith, small, q.0))
      ]
      | inr great ↦ elim (signed_cases r (omega arith)) [
        | inl q ↦ absurd (omega (arith, great, h, q.0))
        | inr q ↦
            let e : pos 0 +ℤ negsuc (4095 - r) ≡ negsuc (4095 - r) = omega (arith, ints) in
            ap (λ z. low_bits 64 (pos 0 +ℤ z)) q.1 ∙ ap (low_bits 64) e ∙ omega (arith, great, h)
      ]
    ]

-- ---- 32 bits

-- a word whose sign is extended to 64 bits
abbrev pub extended : ℕ → ℕ
extended word = low_bits 64 (cast_signed w32 word)

pub extended_cases : (word : ℕ) → word < 2 ^ 32 → ((word < 2 ^ 31) × (extended word ≡ word))
    ⊎ ((2 ^ 31 ≤ word) × (extended word ≡ word + (2 ^ 64 - 2 ^ 32)))
extended_cases word h = grind (arith, nat_tests)

-- what has the lowest 32 bits of a number whose distance is a multiple of 2 ^ 32
low_32_is : (z : ℤ) (word j k : ℕ) → word < 2 ^ 32 → z +ℤ pos (j * 2 ^ 32) ≡ pos (word + k * 2 ^ 32)
    → low_bits 32 z ≡ word
low_32_is (pos a) word j k h e = omega (arith, ints)
low_32_is (negsuc a) word j k h e = omega (arith, ints)

same_sum : (v v' : ℕ) (l l' : ℤ) → v ≡ v' → l ≡ l' → low_bits 32 (pos v +ℤ l) ≡ low_bits 32 (pos v' +ℤ l')
same_sum v v' l l' p q = cc

-- the upper part, rounded up where the lower part is negative
carried : (word : ℕ) → word < 2 ^ 32 → ((word + 2048) / 4096 < 2 ^ 20) ⊎ ((word + 2048) / 4096 ≡ 2 ^ 20)
carried word h = grind arith

-- the upper part with its sign extended and the signed lower part have the word as their sum, but for multiples of
-- 2 ^ 32
sum_is : (word : ℕ) → word < 2 ^ 32 → low_bits 32 (pos (extended (upper word * 2 ^ 12)) +ℤ lower word) ≡ word
sum_is word h =
    let high : ℕ = upper word * 2 ^ 12 in
    let r : ℕ = word % 4096 in
    elim (signed_cases r (omega arith)) [
      | inl q ↦ elim (extended_cases high (omega arith)) [
        | inl p ↦ same_sum _ high _ (pos r) p.1 q.1 ∙ low_32_is (pos high +ℤ pos r) word 0 0 h (omega (arith, ints))
        | inr p ↦ same_sum _ (high + (2 ^ 64 - 2 ^ 32)) _ (pos r) p.1 q.1
            ∙ low_32_is (pos (high + (2 ^ 64 - 2 ^ 32)) +ℤ pos r) word 0 (2 ^ 32 - 1) h (omega (arith, ints))
      ]
      | inr q ↦ elim (carried word h) [
        | inl c ↦ elim (extended_cases high (omega arith)) [
          | inl p ↦ same_sum _ high _ (negsuc (4095 - r)) p.1 q.1
              ∙ low_32_is (pos high +ℤ negsuc (4095 - r)) word 0 0 h (omega (arith, ints))
          | inr p ↦ same_sum _ (high + (2 ^ 64 - 2 ^ 32)) _ (negsuc (4095 - r)) p.1 q.1
              ∙ low_32_is (pos (high + (2 ^ 64 - 2 ^ 32)) +ℤ negsuc (4095 - r)) word 0 (2 ^ 32 - 1) h
              (omega (arith, ints))
        ]
        | inr c ↦ let zero_high : high ≡ 0 = omega arith in
            same_sum _ 0 _ (negsuc (4095 - r)) (ap extended zero_high) q.1
            ∙ low_32_is (pos 0 +ℤ negsuc (4095 - r)) word 1 0 h (omega (arith, ints))
      ]
    ]

low_of_high : (u : ℕ) → u < 2 ^ 20 → low_bits 32 (pos (u * 2 ^ 12)) ≡ u * 2 ^ 12
low_of_high u h = omega arith

-- the two instructions give 32 bits with their sign extended
pub of_32_bits : (word : ℕ) → word < 2 ^ 32
    → low_word (pos (low_word (pos (upper word * 2 ^ 12))) +ℤ lower word) ≡ extended word
of_32_bits word h =
    ap (λ x. extended (low_bits 32 (pos (extended x) +ℤ lower word))) (low_of_high (upper word) (omega arith))
    ∙ ap extended (sum_is word h)

of_32_cases : (word : ℕ) → is_of_32_bits word ≡ true → (word < 2 ^ 31) ⊎ (2 ^ 64 - 2 ^ 31 - 1 < word)
of_32_cases word t = grind (arith, nat_tests)

pub of_32 : (word : ℕ) → word < 2 ^ 64 → is_of_32_bits word ≡ true → extended (word % 2 ^ 32) ≡ word
of_32 word h t = elim (of_32_cases word t) [
  | inl small ↦ elim (extended_cases (word % 2 ^ 32) (omega arith)) [
    | inl p ↦ p.1 ∙ omega (arith, small)
    | inr p ↦ absurd (omega (arith, small, p.0))
  ]
  | inr great ↦ elim (extended_cases (word % 2 ^ 32) (omega arith)) [
    | inl p ↦ absurd (omega (arith, great, h, p.0))
    | inr p ↦ p.1 ∙ omega (arith, great, h)
  ]
]

-- ---- 64 bits: 32 of them, and then 11, 11 and 10 more

-- a word moved up, with bits in the place that is free
abbrev pub with_bits : ℕ → ℕ → ℕ → ℕ
with_bits c n k = bit_or (low_bits 64 (pos (n * 2 ^ c))) (low_bits 64 (pos k))

takes_11 : (n k : ℕ) → k < 2048 → with_bits 11 n k ≡ (n % 2 ^ 53) * 2 ^ 11 + k
takes_11 n k h =
    let high : low_bits 64 (pos (n * 2 ^ 11)) ≡ (n % 2 ^ 53) * 2 ^ 11 = omega arith in
    let low : low_bits 64 (pos k) ≡ k = omega (arith, h) in
    ap (λ a. bit_or a (low_bits 64 (pos k))) high ∙ ap (bit_or ((n % 2 ^ 53) * 2 ^ 11)) low
    ∙ or_shifted (n % 2 ^ 53) 11 k h

takes_10 : (n k : ℕ) → k < 1024 → with_bits 10 n k ≡ (n % 2 ^ 54) * 2 ^ 10 + k
takes_10 n k h =
    let high : low_bits 64 (pos (n * 2 ^ 10)) ≡ (n % 2 ^ 54) * 2 ^ 10 = omega arith in
    let low : low_bits 64 (pos k) ≡ k = omega (arith, h) in
    ap (λ a. bit_or a (low_bits 64 (pos k))) high ∙ ap (bit_or ((n % 2 ^ 54) * 2 ^ 10)) low
    ∙ or_shifted (n % 2 ^ 54) 10 k h

extended_low : (word : ℕ) → word < 2 ^ 32 → extended word % 2 ^ 32 ≡ word
extended_low word h =
    elim (extended_cases word h) [ inl p ↦ omega (arith, p.1, h) | inr p ↦ omega (arith, p.1, h) ]

pub of_64 : (word : ℕ) → word < 2 ^ 64
    → with_bits 10 (with_bits 11 (with_bits 11 (extended (word / 2 ^ 32)) (word / 2 ^ 21 % 2048))
    (word / 2 ^ 10 % 2048))
    (word % 1024) ≡ word
of_64 word h =
    let e : ℕ = extended (word / 2 ^ 32) in
    let first : e % 2 ^ 32 ≡ word / 2 ^ 32 = extended_low (word / 2 ^ 32) (omega (arith, h)) in
    let a : ℕ = with_bits 11 e (word / 2 ^ 21 % 2048) in
    let a_is : a ≡ (e % 2 ^ 53) * 2 ^ 11 + word / 2 ^ 21 % 2048 = takes_11 e (word / 2 ^ 21 % 2048) (omega arith) in
    let second : a % 2 ^ 43 ≡ word / 2 ^ 21 = omega (arith, a_is, first, h) in
    let b : ℕ = with_bits 11 a (word / 2 ^ 10 % 2048) in
    let b_is : b ≡ (a % 2 ^ 53) * 2 ^ 11 + word / 2 ^ 10 % 2048 = takes_11 a (word / 2 ^ 10 % 2048) (omega arith) in
    let third : b % 2 ^ 54 ≡ word / 2 ^ 10 = omega (arith, b_is, second, h) in
    takes_10 b (word % 1024) (omega arith) ∙ omega (arith, third, h)
