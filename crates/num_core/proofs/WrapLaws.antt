-- Wrapping at one width after another, and the bits of values that are held.
use Rattle.std.proofs.Common.{lit<, refl, ap, sym, ◌≡◌, ◌∙◌, ℕ, suc, ◌+◌, ◌-◌, ◌*◌, ◌/◌, ◌%◌, ◌^◌, ◌<◌, ◌≤◌, ℤ, pos}
use Rattle.std.proofs.Common.{negsuc, neg_ℤ, ◌+ℤ◌, ◌-ℤ◌, ◌*ℤ◌, unsigned_abs, FitsSigned, Bool, true, false, arith}
use Rattle.std.proofs.lemmas.Int.{ints, to_z-of_z, of_z-to_z, to_z_pos, int_wrap_fits, SFits-int_wrap}
use Rattle.std.proofs.lemmas.Int.{int_wrap-add_left, int_wrap-add_right, int_wrap-sub_right, int_wrap-mul_left}
use Rattle.std.proofs.lemmas.Int.{int_wrap-mul_right}
use Rattle.std.proofs.lemmas.Bool.{ltb-true, ltb-false, lt-ltb, le-ltb}
use Rattle.std.specs.Int.{Width, w64, int_wrap, int_rem_euclid, int_div_euclid, int_shr, cast_signed, cast_unsigned}
use mir.Val.{bits, hbits, sel}
use mir.ValLaws.{of_z_fits}
use lib.Dec.{ltb}
use lib.Signed.{mag}
use lib.Pow.{pow_pos, pow-add}
use native.Mathlib.Nat.{mod-lt, div-add-mod', mul-mod_left, mul-le-mul_right}
use Rattle.num_core.specs.Integers.{reading, shift_amount}
use Rattle.num_core.specs.declared.kind.Kind.{Kind}
use Rattle.num_core.specs.declared.kind.Kind.TheVariants.{I4, U4, I8, U8}
use Rattle.num_core.proofs.IntegerLaws.{half, rest_below, unsigned-int_wrap, int_wrap-reading}

-- ---- a multiple of the modulus is lost

multiple : (w : Width) (k : ℕ) → int_wrap w (pos (k * 2 ^ bits w)) ≡ pos 0
unfolding int_wrap
multiple w k = ap (cast_signed w) (mul-mod_left k (2 ^ bits w)) ∙ to_z_pos w 0 (pow_pos (hbits w))

pub int_wrap-more : (w : Width) (z : ℤ) (k : ℕ) → int_wrap w (z +ℤ pos (k * 2 ^ bits w)) ≡ int_wrap w z
int_wrap-more w z k =
    sym (int_wrap-add_right w z (pos (k * 2 ^ bits w))) ∙ ap (λ x. int_wrap w (z +ℤ x)) (multiple w k)
    ∙ ap (int_wrap w) (let e : z +ℤ pos 0 ≡ z = omega (arith, ints) in e)

pub int_wrap-same : (w : Width) (a b : ℤ) (j k : ℕ) → a +ℤ pos (j * 2 ^ bits w) ≡ b +ℤ pos (k * 2 ^ bits w)
    → int_wrap w a ≡ int_wrap w b
int_wrap-same w a b j k e = sym (int_wrap-more w a j) ∙ ap (int_wrap w) e ∙ int_wrap-more w b k

pub int_wrap-pos : (w : Width) (n : ℕ) → int_wrap w (pos n) ≡ cast_signed w (n % 2 ^ bits w)
unfolding int_wrap
int_wrap-pos w n = refl

pub int_wrap-is : (w : Width) (z : ℤ)
    → int_wrap w z ≡ cast_signed w (unsigned_abs (int_rem_euclid z (pos (2 ^ bits w))))
unfolding int_wrap
int_wrap-is w z = refl

-- ---- one width after another

-- a multiple of the wider modulus is one of the narrower
scale : (w v : Width) (j : ℕ) → bits w ≤ bits v → j * 2 ^ bits v ≡ (j * 2 ^ (bits v - bits w)) * 2 ^ bits w
scale w v j le =
    let sum : bits v ≡ (bits v - bits w) + bits w = omega arith in
    let e : 2 ^ bits v ≡ 2 ^ (bits v - bits w) * 2 ^ bits w = ap (λ n. 2 ^ n) sum
    ∙ pow-add 2 (bits v - bits w) (bits w) in
    ap (λ x. j * x) e ∙ omega arith

-- the number that bits stand for, and how many times the modulus it lies below them
read_bits : (v : Width) (n : ℕ) → n < 2 ^ bits v → (j : ℕ) × (cast_signed v n +ℤ pos (j * 2 ^ bits v) ≡ pos n)
read_bits v n h = by (ltb n (2 ^ hbits v)) refl
  where
    by : (t : Bool) → ltb n (2 ^ hbits v) ≡ t → (j : ℕ)
        × (sel t (pos n) (negsuc (2 ^ bits v - suc n)) +ℤ pos (j * 2 ^ bits v) ≡ pos n)
    by true e = (0, omega (arith, ints))
    by false e = (1, omega (arith, ints))

-- a number, and what is left of it, differ by a multiple of the modulus
rest_more : (v : Width) (z : ℤ) → (j : ℕ) × (k : ℕ)
    × (pos (unsigned_abs (int_rem_euclid z (pos (2 ^ bits v)))) +ℤ pos (j * 2 ^ bits v) ≡ z +ℤ pos (k * 2 ^ bits v))
rest_more v (pos a) = (a / 2 ^ bits v, 0, omega (arith, ints, div-add-mod' a (2 ^ bits v)))
rest_more v (negsuc a) =
    let small = mod-lt a (pow_pos (bits v)) in
    (0, a / 2 ^ bits v + 1, omega (arith, ints, div-add-mod' a (2 ^ bits v)))

-- the low bits of a wider register are the wrapped number
pub int_wrap-cast_signed : (w v : Width) (n : ℕ) → bits w ≤ bits v → n < 2 ^ bits v
    → int_wrap w (cast_signed v n) ≡ cast_signed w (n % 2 ^ bits w)
int_wrap-cast_signed w v n le h =
    let r = read_bits v n h in
    let far : cast_signed v n +ℤ pos ((r.0 * 2 ^ (bits v - bits w)) * 2 ^ bits w) ≡ pos n +ℤ pos (0 * 2 ^ bits w) =
    ap (λ x. cast_signed v n +ℤ pos x) (sym (scale w v r.0 le)) ∙ r.1 ∙ omega (arith, ints) in
    int_wrap-same w (cast_signed v n) (pos n) (r.0 * 2 ^ (bits v - bits w)) 0 far ∙ int_wrap-pos w n

-- wrapping at a wider width first changes nothing
pub int_wrap-narrower : (w v : Width) (z : ℤ) → bits w ≤ bits v → int_wrap w (int_wrap v z) ≡ int_wrap w z
int_wrap-narrower w v z le =
    let n = unsigned_abs (int_rem_euclid z (pos (2 ^ bits v))) in
    let r = rest_more v z in
    let far : pos n +ℤ pos ((r.0 * 2 ^ (bits v - bits w)) * 2 ^ bits w) ≡ z +ℤ pos
    ((r.1 * 2 ^ (bits v - bits w)) * 2 ^ bits w) =
    ap (λ x. pos n +ℤ pos x) (sym (scale w v r.0 le)) ∙ r.2 ∙ ap (λ x. z +ℤ pos x) (scale w v r.1 le) in
    ap (int_wrap w) (int_wrap-is v z) ∙ int_wrap-cast_signed w v n le (rest_below v z) ∙ sym (int_wrap-pos w n)
    ∙ int_wrap-same w (pos n) z (r.0 * 2 ^ (bits v - bits w)) (r.1 * 2 ^ (bits v - bits w)) far

pub int_wrap-twice : (w : Width) (z : ℤ) → int_wrap w (int_wrap w z) ≡ int_wrap w z
int_wrap-twice w z = int_wrap_fits w (int_wrap w z) (SFits-int_wrap w z)

-- sums, differences and products wrap alike of wrapped operands
pub int_wrap-sum : (w : Width) (a b : ℤ) → int_wrap w (int_wrap w a +ℤ int_wrap w b) ≡ int_wrap w (a +ℤ b)
int_wrap-sum w a b = int_wrap-add_left w a (int_wrap w b) ∙ int_wrap-add_right w a b

pub int_wrap-difference : (w : Width) (a b : ℤ) → int_wrap w (int_wrap w a -ℤ int_wrap w b) ≡ int_wrap w (a -ℤ b)
int_wrap-difference w a b = int_wrap-add_left w a (neg_ℤ (int_wrap w b)) ∙ int_wrap-sub_right w a b

pub int_wrap-product : (w : Width) (a b : ℤ) → int_wrap w (int_wrap w a *ℤ int_wrap w b) ≡ int_wrap w (a *ℤ b)
int_wrap-product w a b = int_wrap-mul_left w a (int_wrap w b) ∙ int_wrap-mul_right w a b

-- ---- values that are held with their sign extended

pub fits_wider : (w v : Width) (a : ℤ) → bits w ≤ bits v → FitsSigned w a → FitsSigned v a
fits_wider w v a le f =
    let k = 2 ^ (bits v - bits w) in
    let one = pow_pos (bits v - bits w) in
    let more = mul-le-mul_right (2 ^ bits w) one in
    let far = scale w v 1 le in
    omega (arith, ints, half w, half v, more, far)

-- truncation undoes sign extension
pub cast_signed-low : (w v : Width) (a : ℤ) → bits w ≤ bits v → FitsSigned w a
    → cast_signed w (cast_unsigned v a % 2 ^ bits w) ≡ a
cast_signed-low w v a le f =
    let wide = fits_wider w v a le f in
    sym (int_wrap-cast_signed w v (cast_unsigned v a) le (of_z_fits v a wide).fits)
    ∙ ap (int_wrap w) (to_z-of_z v a wide) ∙ int_wrap_fits w a f

-- the low bits of a value with its sign extended are its bits
pub cast_unsigned-low : (w v : Width) (a : ℤ) → bits w ≤ bits v → FitsSigned w a
    → cast_unsigned v a % 2 ^ bits w ≡ cast_unsigned w a
cast_unsigned-low w v a le f =
    sym (of_z-to_z w (cast_unsigned v a % 2 ^ bits w) (mod-lt (cast_unsigned v a) (pow_pos (bits w))))
    ∙ ap (cast_unsigned w) (cast_signed-low w v a le f)

-- the bits of a value are what is left of it
pub rest-fits : (w : Width) (a : ℤ) → FitsSigned w a → int_rem_euclid a (pos (2 ^ bits w)) ≡ pos (cast_unsigned w a)
rest-fits w a f = sym (unsigned-int_wrap w a) ∙ ap (λ z. pos (cast_unsigned w z)) (int_wrap_fits w a f)

ltb-below : (m a b : ℕ) → a < m → b < m → ltb (m - suc a) (m - suc b) ≡ ltb b a
ltb-below m a b h k = by (ltb b a) refl
  where
    by : (t : Bool) → ltb b a ≡ t → ltb (m - suc a) (m - suc b) ≡ t
    by true e = let l = ltb-true b a e in lt-ltb (m - suc a) (m - suc b) (omega arith)
    by false e = let l = ltb-false b a e in le-ltb (m - suc a) (m - suc b) (omega arith)

-- values with their sign extended compare without a sign as at their own width
pub ltb-cast_unsigned : (w v : Width) (a b : ℤ) → bits w ≤ bits v → FitsSigned w a → FitsSigned w b
    → ltb (cast_unsigned v a) (cast_unsigned v b) ≡ ltb (cast_unsigned w a) (cast_unsigned w b)
ltb-cast_unsigned w v a b le f g =
    let one = pow_pos (bits v - bits w) in
    let wider : 2 ^ bits w ≤ 2 ^ bits v = omega (arith, mul-le-mul_right (2 ^ bits w) one, scale w v 1 le) in
    by a b f.sfits g.sfits wider
  where
    by : (a b : ℤ) → mag a < 2 ^ hbits w → mag b < 2 ^ hbits w → 2 ^ bits w ≤ 2 ^ bits v
        → ltb (cast_unsigned v a) (cast_unsigned v b) ≡ ltb (cast_unsigned w a) (cast_unsigned w b)
    by (pos m) (pos n) f g wider = refl
    by (pos m) (negsuc n) f g wider =
        let two = half w in
        lt-ltb m (2 ^ bits v - suc n) (omega arith) ∙ sym (lt-ltb m (2 ^ bits w - suc n) (omega arith))
    by (negsuc m) (pos n) f g wider =
        let two = half w in
        le-ltb (2 ^ bits v - suc m) n (omega arith) ∙ sym (le-ltb (2 ^ bits w - suc m) n (omega arith))
    by (negsuc m) (negsuc n) f g wider =
        let two = half w in
        ltb-below (2 ^ bits v) m n (omega arith) (omega arith)
        ∙ sym (ltb-below (2 ^ bits w) m n (omega arith) (omega arith))

-- ---- shifts

-- the shift that copies the sign divides, rounded down
pub int_shr-is : (a : ℤ) (k : ℕ) → int_shr a k ≡ int_div_euclid a (pos (2 ^ k))
int_shr-is (pos n) k = refl
int_shr-is (negsuc n) k = refl

-- ---- either reading of the operands gives the same wrapped result
module _ (signed : Bool) (w : Width) (a b : ℤ) (f : FitsSigned w a) (g : FitsSigned w b) where
  pub sum-reading : int_wrap w (reading signed w a +ℤ reading signed w b) ≡ int_wrap w (a +ℤ b)
  sum-reading = sym (int_wrap-sum w (reading signed w a) (reading signed w b))
      ∙ (λ i. int_wrap w (int_wrap-reading signed w a f i +ℤ int_wrap-reading signed w b g i))

  pub difference-reading : int_wrap w (reading signed w a -ℤ reading signed w b) ≡ int_wrap w (a -ℤ b)
  difference-reading = sym (int_wrap-difference w (reading signed w a) (reading signed w b))
      ∙ (λ i. int_wrap w (int_wrap-reading signed w a f i -ℤ int_wrap-reading signed w b g i))

  pub product-reading : int_wrap w (reading signed w a *ℤ reading signed w b) ≡ int_wrap w (a *ℤ b)
  product-reading = sym (int_wrap-product w (reading signed w a) (reading signed w b))
      ∙ (λ i. int_wrap w (int_wrap-reading signed w a f i *ℤ int_wrap-reading signed w b g i))

pub shift_amount-lt : (kind : Kind) (amount : ℤ) → shift_amount kind amount < 64
shift_amount-lt I4 amount = let h = mod-lt (cast_unsigned w64 amount) (lit< {m = 0} {n = 32} tt) in omega arith
shift_amount-lt U4 amount = let h = mod-lt (cast_unsigned w64 amount) (lit< {m = 0} {n = 32} tt) in omega arith
shift_amount-lt I8 amount = mod-lt (cast_unsigned w64 amount) (lit< tt)
shift_amount-lt U8 amount = mod-lt (cast_unsigned w64 amount) (lit< tt)
