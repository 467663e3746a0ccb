-- What the lines of conversions that refuse nothing give.
use Rattle.std.proofs.Common.{◌≡◌, ◌∙◌, ◌⊎◌, inl, inr, ℕ, suc, ◌-◌, ◌*◌, ◌/◌, ◌%◌, ◌^◌, ◌<◌, ◌≤◌, ℤ, pos, negsuc, ◌+ℤ◌}
use Rattle.std.proofs.Common.{FitsSigned, refl, ap, sym, subst, arith, List, slice_index}
use Rattle.std.proofs.lemmas.Bool.Decides.{nat_tests}
use Rattle.std.proofs.lemmas.Int.{ints, int_wrap_fits, SFits-int_wrap}
use Rattle.std.specs.Int.{Width, cast_signed, cast_unsigned, int_shr, int_wrap, w8, w16, w32, w64}
use Rattle.num_core.specs.Bits.{low_bits}
use Rattle.num_core.specs.Integers.{IsOfKind, held, width}
use Rattle.num_core.specs.declared.kind.Kind.{Kind}
use Rattle.num_core.specs.declared.kind.Kind.TheVariants.{I4, U4, I8, U8}
use Rattle.num_core.specs.declared.kind.Narrow.{Narrow}
use Rattle.num_core.specs.declared.kind.Narrow.TheVariants as narrow
use Rattle.num_core.proofs.WrapLaws.{fits_wider, int_wrap-is, int_wrap-pos, int_wrap-twice}
use Rattle.rv_isa.specs.declared.ins.Ins.{Ins}
use Rattle.rv_step.specs.Machine.{low_word, signed_value, with_register}
use Rattle.lir_core.specs.Values.{value_converted, word_of}
use Rattle.rv_lines.specs.Computing.{converts, extends_by_zeros, extends_sign, keeps, narrows_to_32}
use Rattle.rv_lines.specs.Leading.{AreRegisters, LeadsTo}
use Rattle.rv_lines.proofs.Leading.{by_registers, got, leads_once, leads_twice}
use Rattle.rv_lines.proofs.Values.{bits_of, in_register_32, left_32, low_below, low_of_wrapped}
use Rattle.rv_lines.proofs.Values.{signed_low_32}
use Rattle.rv_lines.proofs.Words.{low_32, low_small, unsigned_32}

-- ---- bits that move up and down again

-- zeros come in from the left
pub zeros_56 : (p : ℕ) → low_bits 64 (pos (p * 2 ^ 56)) / 2 ^ 56 ≡ p % 2 ^ 8
zeros_56 p = omega arith

pub zeros_57 : (p : ℕ) → low_bits 64 (pos (p * 2 ^ 57)) / 2 ^ 57 ≡ p % 2 ^ 7
zeros_57 p = omega arith

pub zeros_48 : (p : ℕ) → low_bits 64 (pos (p * 2 ^ 48)) / 2 ^ 48 ≡ p % 2 ^ 16
zeros_48 p = omega arith

pub zeros_49 : (p : ℕ) → low_bits 64 (pos (p * 2 ^ 49)) / 2 ^ 49 ≡ p % 2 ^ 15
zeros_49 p = omega arith

pub zeros_32 : (p : ℕ) → low_bits 64 (pos (p * 2 ^ 32)) / 2 ^ 32 ≡ p % 2 ^ 32
zeros_32 p = omega arith

pub zeros_33 : (p : ℕ) → low_bits 64 (pos (p * 2 ^ 33)) / 2 ^ 33 ≡ p % 2 ^ 31
zeros_33 p = omega arith

-- a number read with a sign
pub signed_cases_64 : (n : ℕ) → n < 2 ^ 64 → ((n < 2 ^ 63) × (cast_signed w64 n ≡ pos n))
    ⊎ ((2 ^ 63 ≤ n) × (cast_signed w64 n ≡ negsuc (2 ^ 64 - suc n)))
signed_cases_64 n h = grind (arith, nat_tests)

signed_cases_8 : (n : ℕ) → n < 2 ^ 8 → ((n < 2 ^ 7) × (cast_signed w8 n ≡ pos n))
    ⊎ ((2 ^ 7 ≤ n) × (cast_signed w8 n ≡ negsuc (2 ^ 8 - suc n)))
signed_cases_8 n h = grind (arith, nat_tests)

signed_cases_16 : (n : ℕ) → n < 2 ^ 16 → ((n < 2 ^ 15) × (cast_signed w16 n ≡ pos n))
    ⊎ ((2 ^ 15 ≤ n) × (cast_signed w16 n ≡ negsuc (2 ^ 16 - suc n)))
signed_cases_16 n h = grind (arith, nat_tests)

pub signed_cases_32 : (n : ℕ) → n < 2 ^ 32 → ((n < 2 ^ 31) × (cast_signed w32 n ≡ pos n))
    ⊎ ((2 ^ 31 ≤ n) × (cast_signed w32 n ≡ negsuc (2 ^ 32 - suc n)))
signed_cases_32 n h = grind (arith, nat_tests)

-- copies of the sign come in from the left
sign_56 : (p : ℕ) → int_shr (signed_value (low_bits 64 (pos (p * 2 ^ 56)))) 56 ≡ cast_signed w8 (p % 2 ^ 8)
sign_56 p =
    let n : ℕ = low_bits 64 (pos (p * 2 ^ 56)) in
    let is : n ≡ p % 2 ^ 8 * 2 ^ 56 = omega arith in
    elim (signed_cases_8 (p % 2 ^ 8) (omega arith)) [
      | inl low ↦ elim (signed_cases_64 n (omega arith)) [
        | inl q ↦ ap (λ z. int_shr z 56) q.1
            ∙ (let e : pos (n / 2 ^ 56) ≡ pos (p % 2 ^ 8) = ap pos (omega (arith, is)) in e) ∙ sym low.1
        | inr q ↦ absurd (omega (arith, is, low.0, q.0))
      ]
      | inr high ↦ elim (signed_cases_64 n (omega arith)) [
        | inl q ↦ absurd (omega (arith, is, high.0, q.0))
        | inr q ↦ ap (λ z. int_shr z 56) q.1
            ∙ (let e : negsuc ((2 ^ 64 - suc n) / 2 ^ 56) ≡ negsuc (2 ^ 8 - suc (p % 2 ^ 8)) =
            ap negsuc (omega (arith, is)) in e)
            ∙ sym high.1
      ]
    ]

sign_48 : (p : ℕ) → int_shr (signed_value (low_bits 64 (pos (p * 2 ^ 48)))) 48 ≡ cast_signed w16 (p % 2 ^ 16)
sign_48 p =
    let n : ℕ = low_bits 64 (pos (p * 2 ^ 48)) in
    let is : n ≡ p % 2 ^ 16 * 2 ^ 48 = omega arith in
    elim (signed_cases_16 (p % 2 ^ 16) (omega arith)) [
      | inl low ↦ elim (signed_cases_64 n (omega arith)) [
        | inl q ↦ ap (λ z. int_shr z 48) q.1
            ∙ (let e : pos (n / 2 ^ 48) ≡ pos (p % 2 ^ 16) = ap pos (omega (arith, is)) in e) ∙ sym low.1
        | inr q ↦ absurd (omega (arith, is, low.0, q.0))
      ]
      | inr high ↦ elim (signed_cases_64 n (omega arith)) [
        | inl q ↦ absurd (omega (arith, is, high.0, q.0))
        | inr q ↦ ap (λ z. int_shr z 48) q.1
            ∙ (let e : negsuc ((2 ^ 64 - suc n) / 2 ^ 48) ≡ negsuc (2 ^ 16 - suc (p % 2 ^ 16)) =
            ap negsuc (omega (arith, is)) in e)
            ∙ sym high.1
      ]
    ]

sign_32 : (p : ℕ) → int_shr (signed_value (low_bits 64 (pos (p * 2 ^ 32)))) 32 ≡ cast_signed w32 (p % 2 ^ 32)
sign_32 p =
    let n : ℕ = low_bits 64 (pos (p * 2 ^ 32)) in
    let is : n ≡ p % 2 ^ 32 * 2 ^ 32 = omega arith in
    elim (signed_cases_32 (p % 2 ^ 32) (omega arith)) [
      | inl low ↦ elim (signed_cases_64 n (omega arith)) [
        | inl q ↦ ap (λ z. int_shr z 32) q.1
            ∙ (let e : pos (n / 2 ^ 32) ≡ pos (p % 2 ^ 32) = ap pos (omega (arith, is)) in e) ∙ sym low.1
        | inr q ↦ absurd (omega (arith, is, low.0, q.0))
      ]
      | inr high ↦ elim (signed_cases_64 n (omega arith)) [
        | inl q ↦ absurd (omega (arith, is, high.0, q.0))
        | inr q ↦ ap (λ z. int_shr z 32) q.1
            ∙ (let e : negsuc ((2 ^ 64 - suc n) / 2 ^ 32) ≡ negsuc (2 ^ 32 - suc (p % 2 ^ 32)) =
            ap negsuc (omega (arith, is)) in e)
            ∙ sym high.1
      ]
    ]

-- the low bits of a register are those of the value
low_bits_8 : (a : ℤ) → low_bits 64 a % 2 ^ 8 ≡ low_bits 8 a
low_bits_8 (pos n) = omega arith
low_bits_8 (negsuc n) = omega arith

low_bits_16 : (a : ℤ) → low_bits 64 a % 2 ^ 16 ≡ low_bits 16 a
low_bits_16 (pos n) = omega arith
low_bits_16 (negsuc n) = omega arith

low_bits_32 : (a : ℤ) → low_bits 64 a % 2 ^ 32 ≡ low_bits 32 a
low_bits_32 (pos n) = omega arith
low_bits_32 (negsuc n) = omega arith

signed_low_8 : (a : ℤ) → cast_signed w8 (low_bits 8 a) ≡ int_wrap w8 a
signed_low_8 (pos n) = sym (int_wrap-pos w8 n)
signed_low_8 (negsuc n) = sym (int_wrap-is w8 (negsuc n))

signed_low_16 : (a : ℤ) → cast_signed w16 (low_bits 16 a) ≡ int_wrap w16 a
signed_low_16 (pos n) = sym (int_wrap-pos w16 n)
signed_low_16 (negsuc n) = sym (int_wrap-is w16 (negsuc n))

-- what is left of a register is what is left of its value
pub sign_of_8 : (p : ℕ) (a : ℤ) → p ≡ low_bits 64 a
    → int_shr (signed_value (low_bits 64 (pos (p * 2 ^ 56)))) 56 ≡ int_wrap w8 a
sign_of_8 p a e = sign_56 p ∙ ap (cast_signed w8) (ap (λ n. n % 2 ^ 8) e ∙ low_bits_8 a) ∙ signed_low_8 a

pub sign_of_16 : (p : ℕ) (a : ℤ) → p ≡ low_bits 64 a
    → int_shr (signed_value (low_bits 64 (pos (p * 2 ^ 48)))) 48 ≡ int_wrap w16 a
sign_of_16 p a e = sign_48 p ∙ ap (cast_signed w16) (ap (λ n. n % 2 ^ 16) e ∙ low_bits_16 a) ∙ signed_low_16 a

pub sign_of_32 : (p : ℕ) (a : ℤ) → p ≡ low_bits 64 a
    → int_shr (signed_value (low_bits 64 (pos (p * 2 ^ 32)))) 32 ≡ int_wrap w32 a
sign_of_32 p a e =
    sign_32 p ∙ ap (cast_signed w32) (ap (λ n. n % 2 ^ 32) e ∙ low_bits_32 a)
    ∙ signed_low_32 a

-- ---- the lines

pub extends_zeros : (others r x p value : ℕ) (registers : List ℕ) → AreRegisters registers → 0 < r → r < 32
    → slice_index registers x ≡ p → low_bits 64 (pos (p * 2 ^ others)) / 2 ^ others ≡ value → value < 2 ^ 64
    → LeadsTo (extends_by_zeros others r x) registers r value
extends_zeros others r x p value registers has h h' e is fits =
    let between : ℕ = low_bits 64 (pos (p * 2 ^ others)) in
    let middle : List ℕ = with_register registers r between in
    leads_twice (Ins.Slli r x others) (Ins.Srli r r others) registers r between value has h h'
    (by_registers (Ins.Slli r x others) r (λ rs. low_bits 64 (pos (slice_index rs x * 2 ^ others))) (λ m s. refl)
    registers
    between (ap (λ n. low_bits 64 (pos (n * 2 ^ others))) e))
    (low_below (pos (p * 2 ^ others)))
    (by_registers (Ins.Srli r r others) r (λ rs. slice_index rs r / 2 ^ others) (λ m s. refl) middle value
    (ap (λ n. n / 2 ^ others) (got registers r between has h h') ∙ is)) fits

pub extends_signed : (others r x p : ℕ) (z : ℤ) (registers : List ℕ) → AreRegisters registers → 0 < r → r < 32
    → slice_index registers x ≡ p → int_shr (signed_value (low_bits 64 (pos (p * 2 ^ others)))) others ≡ z
    → LeadsTo (extends_sign others r x) registers r (low_bits 64 z)
extends_signed others r x p z registers has h h' e is =
    let between : ℕ = low_bits 64 (pos (p * 2 ^ others)) in
    let middle : List ℕ = with_register registers r between in
    leads_twice (Ins.Slli r x others) (Ins.Srai r r others) registers r between (low_bits 64 z) has h h'
    (by_registers (Ins.Slli r x others) r (λ rs. low_bits 64 (pos (slice_index rs x * 2 ^ others))) (λ m s. refl)
    registers
    between (ap (λ n. low_bits 64 (pos (n * 2 ^ others))) e))
    (low_below (pos (p * 2 ^ others)))
    (by_registers (Ins.Srai r r others) r (λ rs. low_bits 64 (int_shr (signed_value (slice_index rs r)) others))
    (λ m s. refl) middle (low_bits 64 z)
    (ap (λ n. low_bits 64 (int_shr (signed_value n) others)) (got registers r between has h h') ∙ ap (low_bits 64) is))
    (low_below z)

pub narrows : (r x p value : ℕ) (registers : List ℕ) → AreRegisters registers → 0 < r → r < 32
    → slice_index registers x ≡ p → low_word (pos p +ℤ pos 0) ≡ value → value < 2 ^ 64
    → LeadsTo (narrows_to_32 r x) registers r value
narrows r x p value registers has h h' e is fits =
    leads_once (Ins.Addiw r x (pos 0)) registers r value has h h'
    (by_registers (Ins.Addiw r x (pos 0)) r (λ rs. low_word (pos (slice_index rs x) +ℤ pos 0)) (λ m s. refl) registers
    value (ap (λ n. low_word (pos n +ℤ pos 0)) e ∙ is)) fits

pub keeps_word : (r x p : ℕ) (registers : List ℕ) → AreRegisters registers → 0 < r → r < 32
    → slice_index registers x ≡ p → p < 2 ^ 64 → LeadsTo (keeps r x) registers r p
keeps_word r x p registers has h h' e fits =
    let same : low_bits 64 (pos p +ℤ pos 0) ≡ p = omega (arith, ints, fits) in
    leads_once (Ins.Addi r x (pos 0)) registers r p has h h'
    (by_registers (Ins.Addi r x (pos 0)) r (λ rs. low_bits 64 (pos (slice_index rs x) +ℤ pos 0)) (λ m s. refl) registers
    p (ap (λ n. low_bits 64 (pos n +ℤ pos 0)) e ∙ same)) fits

-- ---- what the words hold

-- a narrow number is held as it is
pub small_held : (n : ℕ) → n < 2 ^ 31 → low_bits 64 (held U4 (pos n)) ≡ n
small_held n h =
    ap (low_bits 64) (int_wrap_fits w32 (pos n) (record { sfits = h })) ∙ low_small n (omega (arith, h))

pub narrow_held : (w : Width) (a : ℤ) → FitsSigned w32 (int_wrap w a)
    → low_bits 64 (int_wrap w a) ≡ low_bits 64 (held I4 (int_wrap w a))
narrow_held w a fits = ap (low_bits 64) (sym (int_wrap_fits w32 (int_wrap w a) fits))

pub left_8 : (a : ℤ) → FitsSigned w32 (int_wrap w8 a)
left_8 a = fits_wider w8 w32 (int_wrap w8 a) (omega arith) (SFits-int_wrap w8 a)

pub left_16 : (a : ℤ) → FitsSigned w32 (int_wrap w16 a)
left_16 a = fits_wider w16 w32 (int_wrap w16 a) (omega arith) (SFits-int_wrap w16 a)

-- the bits of a value, as many as its kind has
unsigned_mod_8 : (kind : Kind) (a : ℤ) → IsOfKind kind a → low_bits 64 a % 2 ^ 8 ≡ cast_unsigned (width kind) a % 2 ^ 8
unsigned_mod_8 I4 a fits = let e = low_32 a fits in omega (arith, e)
unsigned_mod_8 U4 a fits = let e = low_32 a fits in omega (arith, e)
unsigned_mod_8 I8 a fits = ap (λ n. n % 2 ^ 8) (bits_of a fits)
unsigned_mod_8 U8 a fits = ap (λ n. n % 2 ^ 8) (bits_of a fits)

unsigned_mod_16 : (kind : Kind) (a : ℤ) → IsOfKind kind a
    → low_bits 64 a % 2 ^ 16 ≡ cast_unsigned (width kind) a % 2 ^ 16
unsigned_mod_16 I4 a fits = let e = low_32 a fits in omega (arith, e)
unsigned_mod_16 U4 a fits = let e = low_32 a fits in omega (arith, e)
unsigned_mod_16 I8 a fits = ap (λ n. n % 2 ^ 16) (bits_of a fits)
unsigned_mod_16 U8 a fits = ap (λ n. n % 2 ^ 16) (bits_of a fits)

unsigned_mod_32 : (kind : Kind) (a : ℤ) → IsOfKind kind a
    → low_bits 64 a % 2 ^ 32 ≡ cast_unsigned (width kind) a % 2 ^ 32
unsigned_mod_32 I4 a fits = let e = low_32 a fits in omega (arith, e)
unsigned_mod_32 U4 a fits = let e = low_32 a fits in omega (arith, e)
unsigned_mod_32 I8 a fits = ap (λ n. n % 2 ^ 32) (bits_of a fits)
unsigned_mod_32 U8 a fits = ap (λ n. n % 2 ^ 32) (bits_of a fits)

-- the low word of a register is what is left of any number with its low 32 bits
low_word_of : (p c : ℕ) → p % 2 ^ 32 ≡ c % 2 ^ 32
    → low_word (pos p +ℤ pos 0) ≡ low_bits 64 (int_wrap w32 (pos (c % 2 ^ 32)))
low_word_of p c e =
    let none : pos p +ℤ pos 0 ≡ pos p = omega (arith, ints) in
    let same : p % 2 ^ 32 ≡ c % 2 ^ 32 % 2 ^ 32 = omega (arith, e) in
    left_32 (pos p +ℤ pos 0) (pos (c % 2 ^ 32))
    (ap (int_wrap w32) none ∙ int_wrap-pos w32 p ∙ ap (cast_signed w32) same ∙ sym (int_wrap-pos w32 (c % 2 ^ 32)))

pub low_word_signed : (p : ℕ) (a : ℤ) → p ≡ low_bits 64 a
    → low_word (pos p +ℤ pos 0) ≡ low_bits 64 (int_wrap w32 (int_wrap w32 a))
low_word_signed p a e =
    let none : pos p +ℤ pos 0 ≡ pos p = omega (arith, ints) in
    left_32 (pos p +ℤ pos 0) (int_wrap w32 a)
    (ap (int_wrap w32) none ∙ ap (λ n. int_wrap w32 (pos n)) e ∙ in_register_32 a ∙ sym (int_wrap-twice w32 a))

-- 64 bits hold each number that has so many
pub held_64 : (c : ℕ) → c < 2 ^ 64 → low_bits 64 (int_wrap w64 (pos (c % 2 ^ 64))) ≡ c
held_64 c h = low_of_wrapped (pos (c % 2 ^ 64)) ∙ omega (arith, h)

wrapped_twice_64 : (a : ℤ) → low_bits 64 a ≡ low_bits 64 (int_wrap w64 (int_wrap w64 a))
wrapped_twice_64 a = sym (low_of_wrapped (int_wrap w64 a) ∙ low_of_wrapped a)

widened_32 : (a : ℤ) → FitsSigned w32 a
    → low_bits 64 a % 2 ^ 32 ≡ low_bits 64 (int_wrap w64 (pos (cast_unsigned w32 a % 2 ^ 64)))
widened_32 a fits =
    let below : cast_unsigned w32 a < 2 ^ 32 = unsigned_32 a fits in
    low_32 a fits ∙ sym (held_64 (cast_unsigned w32 a) (omega (arith, below)))

kept_64 : (a : ℤ) → FitsSigned w64 a → low_bits 64 a ≡ low_bits 64 (int_wrap w64 (pos (cast_unsigned w64 a % 2 ^ 64)))
kept_64 a fits =
    let below : cast_unsigned w64 a < 2 ^ 64 = subst (λ n. n < 2 ^ 64) (bits_of a fits) (low_below a) in
    bits_of a fits ∙ sym (held_64 (cast_unsigned w64 a) below)

-- ---- each conversion

pub converted_lines : (to : Narrow) (kind : Kind) (r x : ℕ) (a : ℤ) (registers : List ℕ) → AreRegisters registers
    → 0 < r → r < 32 → IsOfKind kind a → slice_index registers x ≡ word_of a
    → LeadsTo (converts to kind r x) registers r (word_of (value_converted to kind a))
converted_lines narrow.I1 kind r x a registers has h h' fits e =
    subst (LeadsTo (extends_sign 56 r x) registers r) (narrow_held w8 a (left_8 a))
    (extends_signed 56 r x (word_of a) (int_wrap w8 a) registers has h h' e (sign_of_8 (word_of a) a refl))
converted_lines narrow.U1 kind r x a registers has h h' fits e =
    let n : ℕ = cast_unsigned (width kind) a % 2 ^ 8 in
    extends_zeros 56 r x (word_of a) (low_bits 64 (held U4 (pos n))) registers has h h' e
    (zeros_56 (word_of a) ∙ unsigned_mod_8 kind a fits ∙ sym (small_held n (omega arith)))
    (low_below (held U4 (pos n)))
converted_lines narrow.I2 kind r x a registers has h h' fits e =
    subst (LeadsTo (extends_sign 48 r x) registers r) (narrow_held w16 a (left_16 a))
    (extends_signed 48 r x (word_of a) (int_wrap w16 a) registers has h h' e (sign_of_16 (word_of a) a refl))
converted_lines narrow.U2 kind r x a registers has h h' fits e =
    let n : ℕ = cast_unsigned (width kind) a % 2 ^ 16 in
    extends_zeros 48 r x (word_of a) (low_bits 64 (held U4 (pos n))) registers has h h' e
    (zeros_48 (word_of a) ∙ unsigned_mod_16 kind a fits ∙ sym (small_held n (omega arith)))
    (low_below (held U4 (pos n)))
converted_lines narrow.I4 kind r x a registers has h h' fits e =
    narrows r x (word_of a) (low_bits 64 (int_wrap w32 (int_wrap w32 a))) registers has h h' e
    (low_word_signed (word_of a) a refl) (low_below (int_wrap w32 (int_wrap w32 a)))
converted_lines narrow.U4 kind r x a registers has h h' fits e =
    let n : ℕ = cast_unsigned (width kind) a in
    narrows r x (word_of a) (low_bits 64 (int_wrap w32 (pos (n % 2 ^ 32)))) registers has h h' e
    (low_word_of (word_of a) n (unsigned_mod_32 kind a fits)) (low_below (int_wrap w32 (pos (n % 2 ^ 32))))
converted_lines narrow.I8 kind r x a registers has h h' fits e =
    subst (LeadsTo (keeps r x) registers r) (wrapped_twice_64 a)
    (keeps_word r x (word_of a) registers has h h' e (low_below a))
converted_lines narrow.U8 I4 r x a registers has h h' fits e =
    let n : ℕ = cast_unsigned w32 a in
    extends_zeros 32 r x (word_of a) (low_bits 64 (int_wrap w64 (pos (n % 2 ^ 64)))) registers has h h' e
    (zeros_32 (word_of a) ∙ widened_32 a fits) (low_below (int_wrap w64 (pos (n % 2 ^ 64))))
converted_lines narrow.U8 U4 r x a registers has h h' fits e =
    let n : ℕ = cast_unsigned w32 a in
    extends_zeros 32 r x (word_of a) (low_bits 64 (int_wrap w64 (pos (n % 2 ^ 64)))) registers has h h' e
    (zeros_32 (word_of a) ∙ widened_32 a fits) (low_below (int_wrap w64 (pos (n % 2 ^ 64))))
converted_lines narrow.U8 I8 r x a registers has h h' fits e =
    subst (LeadsTo (keeps r x) registers r) (kept_64 a fits)
    (keeps_word r x (word_of a) registers has h h' e (low_below a))
converted_lines narrow.U8 U8 r x a registers has h h' fits e =
    subst (LeadsTo (keeps r x) registers r) (kept_64 a fits)
    (keeps_word r x (word_of a) registers has h h' e (low_below a))
