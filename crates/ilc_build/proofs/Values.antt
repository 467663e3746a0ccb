-- Numbers of 32 bits in registers of 64, and what is left of them.
use Rattle.std.proofs.Common.{◌≡◌, ◌∙◌, ◌+◌, ◌-◌, ◌*◌, ◌/◌, ◌%◌, ◌^◌, ◌<◌, ℤ, pos, negsuc, ◌+ℤ◌, ◌-ℤ◌, ◌*ℤ◌, ap, sym}
use Rattle.std.proofs.Common.{arith, unsigned_abs}
use Rattle.std.proofs.lemmas.Int.{ints}
use Rattle.std.specs.Int.{cast_signed, w32, int_wrap, int_rem_euclid}
use Rattle.num_core.specs.Integers.{held}
use Rattle.num_core.specs.declared.kind.Kind.TheVariants.{I4}
use Rattle.num_core.proofs.WrapLaws.{int_wrap-pos, int_wrap-is, int_wrap-same, int_wrap-sum, int_wrap-difference}
use Rattle.num_core.proofs.WrapLaws.{int_wrap-product}
use Rattle.num_core.specs.Bits.{low_bits}
use Rattle.rv_step.specs.Machine.{low_word}

-- what a register of 64 bits can hold
pub low_bits-small : (z : ℤ) → low_bits 64 z < 2 ^ 64
low_bits-small (pos a) = omega arith
low_bits-small (negsuc a) = omega arith

-- the lowest 32 bits with their sign are what 32 bits leave of the number
wrapped_low : (z : ℤ) → cast_signed w32 (low_bits 32 z) ≡ int_wrap w32 z
wrapped_low (pos n) = sym (int_wrap-pos w32 n)
wrapped_low (negsuc n) =
    let bits : low_bits 32 (negsuc n) ≡ unsigned_abs (int_rem_euclid (negsuc n) (pos (2 ^ 32))) = omega (arith, ints) in
    ap (cast_signed w32) bits ∙ sym (int_wrap-is w32 (negsuc n))

-- a register has what 32 bits leave of its number
register_wrapped : (z : ℤ) → int_wrap w32 (pos (low_bits 64 z)) ≡ int_wrap w32 z
register_wrapped (pos n) =
    let far : pos (n % 2 ^ 64) +ℤ pos ((n / 2 ^ 64 * 2 ^ 32) * 2 ^ 32) ≡ pos n +ℤ pos (0 * 2 ^ 32) =
    omega (arith, ints) in
    int_wrap-same w32 (pos (n % 2 ^ 64)) (pos n) (n / 2 ^ 64 * 2 ^ 32) 0 far
register_wrapped (negsuc n) =
    let far : pos (2 ^ 64 - 1 - n % 2 ^ 64) +ℤ pos (0 * 2 ^ 32) ≡ negsuc n +ℤ pos (((n / 2 ^ 64 + 1) * 2 ^ 32) * 2 ^ 32)
    = omega (arith, ints) in
    int_wrap-same w32 (pos (2 ^ 64 - 1 - n % 2 ^ 64)) (negsuc n) 0 ((n / 2 ^ 64 + 1) * 2 ^ 32) far

word_of : (z z' : ℤ) → int_wrap w32 z ≡ int_wrap w32 z' → low_word z ≡ low_bits 64 (held I4 z')
word_of z z' e = ap (low_bits 64) (wrapped_low z ∙ e)

-- The forms that end in W give what 32 bits leave of the result.
pub sum_value : (a b : ℤ) → low_word (pos (low_bits 64 a) +ℤ pos (low_bits 64 b)) ≡ low_bits 64 (held I4 (a +ℤ b))
sum_value a b =
    let x : ℤ = pos (low_bits 64 a) in
    let y : ℤ = pos (low_bits 64 b) in
    word_of (x +ℤ y) (a +ℤ b)
    (sym (int_wrap-sum w32 x y) ∙ ap (λ u. int_wrap w32 (u +ℤ int_wrap w32 y)) (register_wrapped a)
    ∙ ap (λ v. int_wrap w32 (int_wrap w32 a +ℤ v)) (register_wrapped b) ∙ int_wrap-sum w32 a b)

pub difference_value : (a b : ℤ) → low_word (pos (low_bits 64 a) -ℤ pos (low_bits 64 b)) ≡ low_bits 64
    (held I4 (a -ℤ b))
difference_value a b =
    let x : ℤ = pos (low_bits 64 a) in
    let y : ℤ = pos (low_bits 64 b) in
    word_of (x -ℤ y) (a -ℤ b)
    (sym (int_wrap-difference w32 x y) ∙ ap (λ u. int_wrap w32 (u -ℤ int_wrap w32 y)) (register_wrapped a)
    ∙ ap (λ v. int_wrap w32 (int_wrap w32 a -ℤ v)) (register_wrapped b) ∙ int_wrap-difference w32 a b)

pub product_value : (a b : ℤ) → low_word (pos (low_bits 64 a) *ℤ pos (low_bits 64 b)) ≡ low_bits 64 (held I4 (a *ℤ b))
product_value a b =
    let x : ℤ = pos (low_bits 64 a) in
    let y : ℤ = pos (low_bits 64 b) in
    word_of (x *ℤ y) (a *ℤ b)
    (sym (int_wrap-product w32 x y) ∙ ap (λ u. int_wrap w32 (u *ℤ int_wrap w32 y)) (register_wrapped a)
    ∙ ap (λ v. int_wrap w32 (int_wrap w32 a *ℤ v)) (register_wrapped b) ∙ int_wrap-product w32 a b)
