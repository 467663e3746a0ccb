-- The words that hold values, and the bits of words.
use Rattle.std.proofs.Common.{◌≡◌, ◌∙◌, ℕ, ◌-◌, ◌%◌, ◌^◌, ◌<◌, ◌≤◌, ℤ, pos, negsuc, true, false, ◌==◌, ◌&&◌}
use Rattle.std.proofs.Common.{nat_le, nat_lt, int_eq, int_lt, FitsSigned, ap, sym, subst, arith, bit_or, bit_xor}
use Rattle.std.proofs.lemmas.Bool.Decides.{nat_tests, Decides-eqb, Decides-int_eq}
use Rattle.std.proofs.lemmas.Int.{int_wrap_fits, SFits-int_wrap}
use Rattle.std.proofs.lemmas.Nat.{and_mask, le_or_l, le_or_r}
use Rattle.std.specs.Int.{Width, cast_signed, cast_unsigned, w32, w64, int_wrap}
use lib.Bits.{xor_add_and, xor_assoc, xor_self, xor_zero_l, xor_zero_r, or_zero_l}
use mir.Val.{bits}
use Rattle.num_core.specs.Bits.{low_bits}
use Rattle.num_core.specs.Integers.{lies_in}
use Rattle.num_core.proofs.IntegerLaws.{fits_from_lies, lies_from_fits}
use Rattle.num_core.proofs.WrapLaws.{cast_signed-low, cast_unsigned-low, fits_wider}
use Rattle.lir_core.specs.Values.{word_of}
use Rattle.rv_lines.proofs.Tests.{equal, same_test}
use Rattle.rv_lines.proofs.Values.{bits_of}

-- ---- values of 32 bits

pub wide_32 : (a : ℤ) → FitsSigned w32 a → FitsSigned w64 a
wide_32 a fits = fits_wider w32 w64 a (omega arith) fits

-- the low 32 bits of the word are the value's, and stand for it
pub low_32 : (a : ℤ) → FitsSigned w32 a → low_bits 64 a % 2 ^ 32 ≡ cast_unsigned w32 a
low_32 a fits =
    ap (λ n. n % 2 ^ 32) (bits_of a (wide_32 a fits)) ∙ cast_unsigned-low w32 w64 a (omega arith) fits

pub low_32_signed : (a : ℤ) → FitsSigned w32 a → cast_signed w32 (low_bits 64 a % 2 ^ 32) ≡ a
low_32_signed a fits =
    ap (λ n. cast_signed w32 (n % 2 ^ 32)) (bits_of a (wide_32 a fits)) ∙ cast_signed-low w32 w64 a (omega arith) fits

-- the word of a value that isn't negative
pub low_small : (n : ℕ) → n < 2 ^ 64 → low_bits 64 (pos n) ≡ n
low_small n h = omega (arith, h)

pub unsigned_32 : (a : ℤ) → FitsSigned w32 a → cast_unsigned w32 a < 2 ^ 32
unsigned_32 (pos n) fits = let small : n < 2 ^ 31 = fits.sfits in omega (arith, small)
unsigned_32 (negsuc n) fits = omega arith

-- ---- whether a value is what is left of it in so many bits

pub is_left : (w : Width) (z : ℤ) → bits w ≤ 64 → FitsSigned w64 z
    → (word_of z == word_of (int_wrap w z)) ≡ lies_in true w z
is_left w z narrow fits =
    equal z (int_wrap w z) fits (fits_wider w w64 (int_wrap w z) narrow (SFits-int_wrap w z))
    ∙ same_test (int_eq z (int_wrap w z)) (lies_in true w z) (Decides-int_eq z (int_wrap w z)) (λ t. t, λ t. t)
    (λ same. lies_from_fits w z (subst (FitsSigned w) (sym same) (SFits-int_wrap w z)))
    (λ lies. sym (int_wrap_fits w z (fits_from_lies w z lies)))

pub eq_turned : (p q : ℕ) → (p == q) ≡ (q == p)
eq_turned p q = same_test (p == q) (q == p) (Decides-eqb p q) (Decides-eqb q p) sym sym

-- the range without a sign, of a number that isn't negative
from_zero : (n : ℕ) → nat_le 0 n ≡ true
from_zero n = grind (arith, nat_tests)

pub in_unsigned : (w : Width) (n : ℕ) → lies_in false w (pos n) ≡ nat_le n (2 ^ bits w - 1)
in_unsigned w n = ap (λ t. t && nat_le n (2 ^ bits w - 1)) (from_zero n)

pub not_negative : (n : ℕ) → int_lt (pos n) (pos 0) ≡ false
not_negative n = none n
  where
    none : (n : ℕ) → nat_lt n 0 ≡ false
    none n = grind (arith, nat_tests)

pub is_equal : (p q : ℕ) → (p == q) ≡ true → p ≡ q
is_equal p q t = (Decides-eqb p q).0 t

-- ---- bits

pub flipped : (n : ℕ) → n < 2 ^ 64 → bit_xor n (2 ^ 64 - 1) ≡ 2 ^ 64 - 1 - n
flipped n h =
    let sum = xor_add_and n (2 ^ 64 - 1) in
    let all = and_mask n 64 in
    omega (arith, sum, all, h)

-- two words that differ in no bit are one
pub same_bits : (p q : ℕ) → bit_xor p q ≡ 0 → p ≡ q
same_bits p q none =
    sym (xor_zero_r p) ∙ ap (bit_xor p) (sym (xor_self q)) ∙ sym (xor_assoc p q q) ∙ ap (λ n. bit_xor n q) none
    ∙ xor_zero_l q

pub no_bits : (p q : ℕ) → p ≡ q → bit_xor p q ≡ 0
no_bits p q same = ap (λ n. bit_xor n q) same ∙ xor_self q

pub xor_is_zero : (p q : ℕ) → (bit_xor p q == 0) ≡ (p == q)
xor_is_zero p q =
    same_test (bit_xor p q == 0) (p == q) (Decides-eqb (bit_xor p q) 0) (Decides-eqb p q) (same_bits p q) (no_bits p q)

-- of two words there is a bit unless both are 0
pub both_zero : (p q : ℕ) → bit_or p q ≡ 0 → (p ≡ 0) × (q ≡ 0)
both_zero p q none =
    let left = le_or_l p q in
    let right = le_or_r p q in
    (omega (arith, left, none), omega (arith, right, none))

pub none_of_zeros : (p q : ℕ) → p ≡ 0 → q ≡ 0 → bit_or p q ≡ 0
none_of_zeros p q e f = ap (λ n. bit_or n q) e ∙ or_zero_l q ∙ f
