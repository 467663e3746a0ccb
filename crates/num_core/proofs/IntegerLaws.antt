-- What the words of `specs/Integers.antt` say of one another, at any width.
use Rattle.std.proofs.Common.{SomeIff, ◌↔◌, Some, None, IfSome, if◌then◌else◌, ◌≡◌, ◌∙◌, sym, ap, subst, refl, ℕ, suc}
use Rattle.std.proofs.Common.{◌+◌, ◌-◌, ◌%◌, ◌^◌, ◌<◌, ◌≤◌, ℤ, pos, negsuc, ◌-ℤ◌, ◌≤ℤ◌, ◌<ℤ◌, int_le, unsigned_abs}
use Rattle.std.proofs.Common.{FitsSigned, Bool, true, false, ◌&&◌, IsTrue, arith}
use Rattle.std.proofs.lemmas.Int.{ints, to_z-of_z, of_z-to_z, int_wrap_fits, SFits-int_wrap}
use Rattle.std.proofs.lemmas.Bool.{ltb-true, ltb-false, and_parts, and_from, false≢true, le-leb}
use Rattle.std.specs.Int.{Width, w8, w16, w32, w64, w128, int_wrap, int_rem_euclid, cast_signed, cast_unsigned}
use mir.Val.{bits, hbits, sel}
use lib.Dec.{ltb}
use mir.ValLaws.{of_z_fits}
use lib.Pow.{pow_pos}
use native.Mathlib.Nat.{mod-eq_of_lt, mod-lt}
use Rattle.num_core.specs.Integers.{modulus, least, greatest, lies_in, wrapped, reading, is_signed, width, number}
use Rattle.num_core.specs.Integers.{in_range, held, is_signed_type, width_of_type, kind_of_type, in_range_of_type}
use Rattle.num_core.specs.Integers.{wrapped_to_type, checked_to_type}
use Rattle.num_core.specs.declared.kind.Kind.{Kind}
use Rattle.num_core.specs.declared.kind.Kind.TheVariants.{I4, U4, I8, U8}
use Rattle.num_core.specs.declared.kind.Narrow.{Narrow}

pub half : (w : Width) → 2 ^ bits w ≡ 2 ^ hbits w + 2 ^ hbits w
half w8 = refl
half w16 = refl
half w32 = refl
half w64 = refl
half w128 = refl

-- ---- the range with a sign is that of the signed type

pub fits_from_lies : (w : Width) (z : ℤ) → IsTrue (lies_in true w z) → FitsSigned w z
fits_from_lies w z h =
    let both = and_parts (int_le (least true w) z) (int_le z (greatest true w)) h in
    omega (arith, ints, pow_pos (hbits w), both.0, both.1)

pub lies_from_fits : (w : Width) (z : ℤ) → FitsSigned w z → IsTrue (lies_in true w z)
lies_from_fits w z f =
    let low : true ≡ int_le (least true w) z = omega (arith, ints, pow_pos (hbits w)) in
    let high : true ≡ int_le z (greatest true w) = omega (arith, ints, pow_pos (hbits w)) in
    and_from (int_le (least true w) z) (int_le z (greatest true w)) (sym low) (sym high)

-- ---- the range without a sign is that of the unsigned type

pub lies_from_below : (w : Width) (n : ℕ) → n < 2 ^ bits w → IsTrue (lies_in false w (pos n))
lies_from_below w n h =
    let high : n ≤ 2 ^ bits w - 1 = omega arith in
    and_from (int_le (pos 0) (pos n)) (int_le (pos n) (greatest false w)) (le-leb 0 n (omega arith))
    (le-leb n (2 ^ bits w - 1) high)

pub below_from_lies : (w : Width) (z : ℤ) → IsTrue (lies_in false w z) → (z ≡ pos (unsigned_abs z))
    × (unsigned_abs z < 2 ^ bits w)
below_from_lies w (pos n) h =
    let both = and_parts (int_le (pos 0) (pos n)) (int_le (pos n) (greatest false w)) h in
    (refl, omega (arith, ints, pow_pos (bits w), both.1))
below_from_lies w (negsuc n) h = absurd (false≢true h)

-- ---- what is left of a number in some bits

pub rest_below : (w : Width) (z : ℤ) → unsigned_abs (int_rem_euclid z (pos (2 ^ bits w))) < 2 ^ bits w
rest_below w (pos a) = mod-lt a (pow_pos (bits w))
rest_below w (negsuc a) = omega (arith, pow_pos (bits w))

rest_is_natural : (z d : ℤ) → pos (unsigned_abs (int_rem_euclid z d)) ≡ int_rem_euclid z d
rest_is_natural (pos a) d = refl
rest_is_natural (negsuc a) d = refl

pub unsigned-int_wrap : (w : Width) (z : ℤ) → pos (cast_unsigned w (int_wrap w z)) ≡ int_rem_euclid z (pos (2 ^ bits w))
unfolding int_wrap
unsigned-int_wrap w z =
    let rest = int_rem_euclid z (pos (2 ^ bits w)) in
    ap pos (of_z-to_z w (unsigned_abs rest) (rest_below w z)) ∙ rest_is_natural z (pos (2 ^ bits w))

pub reading-int_wrap : (signed : Bool) (w : Width) (z : ℤ) → reading signed w (int_wrap w z) ≡ wrapped signed w z
reading-int_wrap true w z = refl
reading-int_wrap false w z = unsigned-int_wrap w z

pub wrapped-inside : (signed : Bool) (w : Width) (z : ℤ) → IsTrue (lies_in signed w z) → wrapped signed w z ≡ z
wrapped-inside true w z h = int_wrap_fits w z (fits_from_lies w z h)
wrapped-inside false w (pos n) h = ap pos (mod-eq_of_lt (below_from_lies w (pos n) h).1)
wrapped-inside false w (negsuc n) h = absurd (false≢true h)

pub reading-inside : (signed : Bool) (w : Width) (z : ℤ) → IsTrue (lies_in signed w z)
    → reading signed w (int_wrap w z) ≡ z
reading-inside signed w z h = reading-int_wrap signed w z ∙ wrapped-inside signed w z h

pub wrapped_lies : (signed : Bool) (w : Width) (z : ℤ) → IsTrue (lies_in signed w (wrapped signed w z))
wrapped_lies true w z = lies_from_fits w (int_wrap w z) (SFits-int_wrap w z)
wrapped_lies false w (pos a) = lies_from_below w (a % 2 ^ bits w) (rest_below w (pos a))
wrapped_lies false w (negsuc a) = lies_from_below w (2 ^ bits w - 1 - a % 2 ^ bits w) (rest_below w (negsuc a))

-- ---- values that are held

pub int_wrap-reading : (signed : Bool) (w : Width) (a : ℤ) → FitsSigned w a → int_wrap w (reading signed w a) ≡ a
unfolding int_wrap
int_wrap-reading true w a f = int_wrap_fits w a f
int_wrap-reading false w a f = ap (cast_signed w) (mod-eq_of_lt (of_z_fits w a f).fits) ∙ to_z-of_z w a f

pub reading_lies : (signed : Bool) (w : Width) (a : ℤ) → FitsSigned w a → IsTrue (lies_in signed w (reading signed w a))
reading_lies true w a f = lies_from_fits w a f
reading_lies false w a f = lies_from_below w (cast_unsigned w a) (of_z_fits w a f).fits

-- ---- what a call that refuses answers

pub checked-number : (signed : Bool) (w : Width) (z : ℤ)
    → IfSome (if lies_in signed w z then Some (int_wrap w z) else None) (λ r. reading signed w r ≡ z)
checked-number signed w z = by (lies_in signed w z) refl
  where
    by : (t : Bool) → lies_in signed w z ≡ t
        → IfSome (if t then Some (int_wrap w z) else None) (λ r. reading signed w r ≡ z)
    by true e = reading-inside signed w z e
    by false e = tt

pub checked_fits : (t : Bool) (w : Width) (z : ℤ)
    → IfSome (if t then Some (int_wrap w z) else None) (λ r. FitsSigned w r)
checked_fits true w z = SFits-int_wrap w z
checked_fits false w z = tt

-- ---- the types that a conversion names

-- a number of the type is one of the kind in which it is held
pub in_range-kind_of_type : (to : Narrow) (z : ℤ) → IsTrue (in_range_of_type to z)
    → IsTrue (in_range (kind_of_type to) z)
in_range-kind_of_type to z h = by to
    (and_parts (int_le (least (is_signed_type to) (width_of_type to)) z)
    (int_le z (greatest (is_signed_type to) (width_of_type to))) h)
  where
    narrower : (low high low' high' : ℤ) → low' ≤ℤ low → high ≤ℤ high' → (IsTrue (int_le low z))
        × (IsTrue (int_le z high)) → IsTrue (int_le low' z && int_le z high')
    narrower low high low' high' l m b =
        let x = b.0 in
        let y = b.1 in
        let p : true ≡ int_le low' z = omega (arith, ints) in
        let q : true ≡ int_le z high' = omega (arith, ints) in
        and_from (int_le low' z) (int_le z high') (sym p) (sym q)

    by : (to : Narrow) → (IsTrue (int_le (least (is_signed_type to) (width_of_type to)) z))
        × (IsTrue (int_le z (greatest (is_signed_type to) (width_of_type to)))) → IsTrue (in_range (kind_of_type to) z)
    by Narrow.I1 b = narrower (least true w8) (greatest true w8) (least true w32) (greatest true w32)
        (record { le = tt }) (record { le = tt }) b
    by Narrow.U1 b = narrower (least false w8) (greatest false w8) (least false w32) (greatest false w32)
        (record { le = tt }) (record { le = tt }) b
    by Narrow.I2 b = narrower (least true w16) (greatest true w16) (least true w32) (greatest true w32)
        (record { le = tt }) (record { le = tt }) b
    by Narrow.U2 b = narrower (least false w16) (greatest false w16) (least false w32) (greatest false w32)
        (record { le = tt }) (record { le = tt }) b
    by Narrow.I4 b = and_from (int_le (least true w32) z) (int_le z (greatest true w32)) b.0 b.1
    by Narrow.U4 b = and_from (int_le (least false w32) z) (int_le z (greatest false w32)) b.0 b.1
    by Narrow.I8 b = and_from (int_le (least true w64) z) (int_le z (greatest true w64)) b.0 b.1
    by Narrow.U8 b = and_from (int_le (least false w64) z) (int_le z (greatest false w64)) b.0 b.1

pub checked_to_type-number : (to : Narrow) (z : ℤ) → IfSome (checked_to_type to z) (λ r. number (kind_of_type to) r ≡ z)
checked_to_type-number to z = by (in_range_of_type to z) refl
  where
    by : (t : Bool) → in_range_of_type to z ≡ t
        → IfSome (if t then Some (held (kind_of_type to) z) else None) (λ r. number (kind_of_type to) r ≡ z)
    by true e = reading-inside (is_signed (kind_of_type to)) (width (kind_of_type to)) z (in_range-kind_of_type to z e)
    by false e = tt

-- ---- how the code wraps: what is left of z is the number itself, or lies the modulus above it

of_rest : (w : Width) (n : ℕ) → n < 2 ^ bits w → (t : Bool) → ltb n (2 ^ hbits w) ≡ t
    → (n < 2 ^ hbits w → sel t (pos n) (negsuc (2 ^ bits w - suc n)) ≡ pos n)
    × (2 ^ hbits w ≤ n → sel t (pos n) (negsuc (2 ^ bits w - suc n)) ≡ pos n -ℤ pos (2 ^ bits w))
of_rest w n h true e = let below = ltb-true n (2 ^ hbits w) e in (λ l. refl, λ l. absurd (omega arith))
of_rest w n h false e = let above = ltb-false n (2 ^ hbits w) e in (λ l. absurd (omega arith), λ l. omega (arith, ints))

pub rest_inside : (signed : Bool) (w : Width) (z r : ℤ) → r ≡ int_rem_euclid z (modulus w) → r ≤ℤ greatest signed w
    → r ≡ wrapped signed w z
unfolding int_wrap
rest_inside true w z r e h =
    let n = unsigned_abs (int_rem_euclid z (modulus w)) in
    let is : r ≡ pos n = e ∙ sym (rest_is_natural z (modulus w)) in
    let low : pos n ≤ℤ greatest true w = subst (λ (x : ℤ). x ≤ℤ greatest true w) is h in
    let small : n < 2 ^ hbits w = omega (arith, ints, pow_pos (hbits w)) in
    is ∙ sym ((of_rest w n (rest_below w z) (ltb n (2 ^ hbits w)) refl).0 small)
rest_inside false w z r e h = e

pub rest_above : (signed : Bool) (w : Width) (z r : ℤ) → r ≡ int_rem_euclid z (modulus w) → greatest signed w <ℤ r
    → r -ℤ modulus w ≡ wrapped signed w z
unfolding int_wrap
rest_above true w z r e h =
    let n = unsigned_abs (int_rem_euclid z (modulus w)) in
    let is : r ≡ pos n = e ∙ sym (rest_is_natural z (modulus w)) in
    let high : greatest true w <ℤ pos n = subst (λ (x : ℤ). greatest true w <ℤ x) is h in
    let large : 2 ^ hbits w ≤ n = omega (arith, ints, pow_pos (hbits w)) in
    ap (λ x. x -ℤ modulus w) is ∙ sym ((of_rest w n (rest_below w z) (ltb n (2 ^ hbits w)) refl).1 large)
rest_above false w z r e h =
    let n = unsigned_abs (int_rem_euclid z (modulus w)) in
    let is : r ≡ pos n = e ∙ sym (rest_is_natural z (modulus w)) in
    let high : greatest false w <ℤ pos n = subst (λ (x : ℤ). greatest false w <ℤ x) is h in
    absurd (omega (arith, ints, rest_below w z))

-- what a conversion leaves is read again as the number that it wrapped
pub number-wrapped_to_type : (to : Narrow) (z : ℤ)
    → number (kind_of_type to) (held (kind_of_type to) (wrapped_to_type to z)) ≡ wrapped_to_type to z
number-wrapped_to_type to z =
    let kind = kind_of_type to in
    let inside = wrapped_lies (is_signed_type to) (width_of_type to) z in
    reading-inside (is_signed kind) (width kind) (wrapped_to_type to z)
    (in_range-kind_of_type to (wrapped_to_type to z) inside)

-- 0 is read as 0
pub number-zero : (kind : Kind) → number kind (pos 0) ≡ pos 0
number-zero I4 = refl
number-zero U4 = refl
number-zero I8 = refl
number-zero U8 = refl

-- ---- the words as the reader has them

pub lies-bounds : (signed : Bool) (w : Width) (z : ℤ) → IsTrue (lies_in signed w z)
    ↔ ((least signed w ≤ℤ z) × (z ≤ℤ greatest signed w))
lies-bounds signed w z = (
  λ h. let both = and_parts (int_le (least signed w) z) (int_le z (greatest signed w)) h in
      (omega (arith, ints, both.0), omega (arith, ints, both.1)),
  λ b.
      let low : true ≡ int_le (least signed w) z = omega (arith, ints, b.0) in
      let high : true ≡ int_le z (greatest signed w) = omega (arith, ints, b.1) in
      and_from (int_le (least signed w) z) (int_le z (greatest signed w)) (sym low) (sym high),
)

pub checked-cases : (signed : Bool) (w : Width) (z : ℤ)
    → SomeIff (if lies_in signed w z then Some (int_wrap w z) else None) (IsTrue (lies_in signed w z)) (int_wrap w z)
checked-cases signed w z = by (lies_in signed w z) refl
  where
    by : (t : Bool) → lies_in signed w z ≡ t
        → SomeIff (if t then Some (int_wrap w z) else None) (lies_in signed w z ≡ true) (int_wrap w z)
    by true e = (e, refl)
    by false e = λ d. false≢true (sym e ∙ d)
