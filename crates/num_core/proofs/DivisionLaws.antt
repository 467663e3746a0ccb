-- The quotient and the remainder of two numbers of a range lie in it, but for the quotient of the least number by -1.
use Rattle.std.proofs.Common.{◌↔◌, ◌∙◌, sym, refl, ap, ◌≡◌, ℕ, zero, suc, ◌-◌, ◌/◌, ◌%◌, ◌^◌, ◌<◌, ◌≤◌, ℤ, pos, negsuc}
use Rattle.std.proofs.Common.{neg_ℤ, int_div, int_rem, unsigned_abs, Bool, true, false, IsTrue, arith}
use Rattle.std.proofs.lemmas.Bool.{false≢true}
use Rattle.std.specs.Int.{Width, w32, w64}
use mir.Val.{hbits}
use lib.Signed.{mag, mag_rem}
use native.Mathlib.Nat.{div-le_self, mod-le, mul-div-le, mul-le-mul_right}
use Rattle.num_core.specs.declared.kind.Kind.{Kind}
use Rattle.num_core.specs.declared.kind.Kind.TheVariants.{I4, U4, I8, U8}
use Rattle.num_core.specs.Integers.{lies_in, least, is_signed, width, number, in_range, InRange, IsOfKind}
use Rattle.num_core.specs.Integers.{IsLeastByMinusOne}
use Rattle.num_core.proofs.IntegerLaws.{fits_from_lies, lies_from_fits, lies_from_below, below_from_lies, reading_lies}

mag_neg : (n : ℕ) → mag (neg_ℤ (pos n)) ≡ n - 1
mag_neg zero = refl
mag_neg (suc n) = omega arith

-- a number divided by -2 or less
halved : (a b h : ℕ) → a < h → suc a / suc (suc b) < h
halved a b h l =
    let two : 2 ≤ suc (suc b) = omega arith in
    let twice = mul-le-mul_right (suc a / suc (suc b)) two in
    omega (arith, mul-div-le (suc a) (suc (suc b)), twice)

quotient_mag : (h : ℕ) (x y : ℤ) → mag x < h → (x ≡ negsuc (h - 1) → ¬ (y ≡ negsuc 0)) → mag (int_div x y) < h
quotient_mag h (pos a) (pos b) l apart = omega (arith, div-le_self a b)
quotient_mag h (pos a) (negsuc b) l apart = omega (arith, mag_neg (a / suc b), div-le_self a (suc b))
quotient_mag h (negsuc a) (pos b) l apart = omega (arith, mag_neg (suc a / b), div-le_self (suc a) b)
quotient_mag h (negsuc a) (negsuc zero) l apart =
    let other : ¬ (a ≡ h - 1) = λ e. apart (ap negsuc e) refl in
    omega (arith, div-le_self (suc a) 1)
quotient_mag h (negsuc a) (negsuc (suc b)) l apart = halved a b h l

pub quotient_lies : (signed : Bool) (w : Width) (x y : ℤ) → IsTrue (lies_in signed w x) → IsTrue (lies_in signed w y)
    → (x ≡ least signed w → ¬ (y ≡ negsuc 0)) → IsTrue (lies_in signed w (int_div x y))
quotient_lies true w x y p q apart =
    let f = fits_from_lies w x p in
    lies_from_fits w (int_div x y) (record { sfits = quotient_mag (2 ^ hbits w) x y f.sfits apart })
quotient_lies false w (pos a) (pos b) p q apart =
    let small = (below_from_lies w (pos a) p).1 in
    lies_from_below w (a / b) (omega (arith, div-le_self a b))
quotient_lies false w (pos a) (negsuc b) p q apart = absurd (false≢true q)
quotient_lies false w (negsuc a) y p q apart = absurd (false≢true p)

pub remainder_lies : (signed : Bool) (w : Width) (x y : ℤ) → IsTrue (lies_in signed w x)
    → IsTrue (lies_in signed w (int_rem x y))
remainder_lies true w x y p =
    let f = fits_from_lies w x p in
    lies_from_fits w (int_rem x y) (record { sfits = omega (arith, mag_rem x y, f.sfits) })
remainder_lies false w (pos a) y p =
    let small = (below_from_lies w (pos a) p).1 in
    let n = unsigned_abs y in
    lies_from_below w (a % n) (omega (arith, mod-le a n))
remainder_lies false w (negsuc a) y p = absurd (false≢true p)

-- the numbers of two values are the least and -1 only where the kind has a sign, and the values are those
least_by_minus_one : (kind : Kind) (a b : ℤ) → number kind a ≡ least (is_signed kind) (width kind)
    → number kind b ≡ negsuc 0 → IsLeastByMinusOne kind a b
least_by_minus_one I4 a b e d = (refl, e, d)
least_by_minus_one U4 a b e d = cc
least_by_minus_one I8 a b e d = (refl, e, d)
least_by_minus_one U8 a b e d = cc

-- the quotient of the least number by -1 is above the greatest
out_of_range : (kind : Kind) (a b : ℤ) → IsLeastByMinusOne kind a b
    → in_range kind (int_div (number kind a) (number kind b)) ≡ false
out_of_range I4 a b h = ap (λ z. in_range I4 (int_div z b)) h.1 ∙ ap (λ z. in_range I4 (int_div (least true w32) z)) h.2
out_of_range U4 a b h = absurd (false≢true h.0)
out_of_range I8 a b h = ap (λ z. in_range I8 (int_div z b)) h.1 ∙ ap (λ z. in_range I8 (int_div (least true w64) z)) h.2
out_of_range U8 a b h = absurd (false≢true h.0)

pub quotient_in_range : (kind : Kind) (a b : ℤ) → IsOfKind kind a → IsOfKind kind b
    → InRange kind (int_div (number kind a) (number kind b)) ↔ ¬ (IsLeastByMinusOne kind a b)
quotient_in_range kind a b f g = (
  λ inside h. false≢true (sym (out_of_range kind a b h) ∙ inside),
  λ other. quotient_lies (is_signed kind) (width kind) (number kind a) (number kind b)
      (reading_lies (is_signed kind) (width kind) a f)
      (reading_lies (is_signed kind) (width kind) b g) (λ e d. other (least_by_minus_one kind a b e d)),
)
