-- The code computes at 128 bits, where a sum, a difference, a quotient and a remainder of numbers of 65 bits are exact.
use Rattle.std.proofs.Common.{lit<, suc, ◌%◌, refl, Bool, true, false, IsTrue, int_le, Some, None, if◌then◌else◌, ◌≡◌}
use Rattle.std.proofs.Common.{◌∙◌, ap, subst, sym, ℕ, ◌+◌, ◌-◌, ◌*◌, ◌^◌, ◌<◌, ◌≤◌, ℤ, pos, negsuc, neg_ℤ, ◌+ℤ◌, ◌-ℤ◌}
use Rattle.std.proofs.Common.{◌*ℤ◌, ◌≤ℤ◌, ◌<ℤ◌, FitsSigned, to_z, of_z, arith}
use Rattle.std.proofs.lemmas.Int.{ints, to_z-of_z, to_z_pos}
use Rattle.std.specs.Int.{w32, w64, w128}
use mir.ValLaws.{of_z_fits}
use native.Mathlib.Nat.{mod-eq_of_lt, mul-le-mul, pow-le-pow_right}
use borrow.Author.Differences.{up, down}
use Rattle.num_core.specs.declared.kind.Kind.{Kind}
use Rattle.num_core.specs.declared.kind.Kind.TheVariants.{I4, U4, I8, U8}
use Rattle.std.proofs.lemmas.Bool.{and_parts}
use Rattle.num_core.specs.Integers.{number, width, is_signed, least, greatest, in_range, held, checked}

-- z has 65 bits with its sign
pub record IsWide (z : ℤ) : Type 0 where
  pub low : neg_ℤ (pos (2 ^ 64)) ≤ℤ z
  pub high : z <ℤ pos (2 ^ 64)

pub wide_fits : (z : ℤ) → IsWide z → FitsSigned w128 z
wide_fits z h = let l = h.low in let r = h.high in omega (arith, ints)

pub wide_number : (kind : Kind) (a : ℤ) → FitsSigned (width kind) a → IsWide (number kind a)
wide_number I4 a f = record { low = omega (arith, ints); high = omega (arith, ints) }
wide_number U4 a f = let h = (of_z_fits w32 a f).fits in
    record { low = omega (arith, ints); high = omega (arith, ints) }
wide_number I8 a f = record { low = omega (arith, ints); high = omega (arith, ints) }
wide_number U8 a f = let h = (of_z_fits w64 a f).fits in
    record { low = omega (arith, ints); high = omega (arith, ints) }

module _ (kind : Kind) (a r : ℤ) (fits : FitsSigned (width kind) a) (range : FitsSigned w64 a)
    (is : r ≡ number kind (to_z w64 (of_z w64 a))) where
  pub number_is : r ≡ number kind a
  number_is = is ∙ ap (number kind) (to_z-of_z w64 a range)

  pub number_fits : FitsSigned w128 r
  number_fits = subst (FitsSigned w128) (sym number_is) (wide_fits (number kind a) (wide_number kind a fits))

  pub read_number_is : to_z w128 (of_z w128 r) ≡ number kind a
  read_number_is = to_z-of_z w128 r number_fits ∙ number_is

module _ (x y p q : ℤ) (wide_x : IsWide x) (wide_y : IsWide y) (px : p ≡ x) (qy : q ≡ y) where
  pub sum_is : to_z w128 (of_z w128 (p +ℤ q)) ≡ x +ℤ y
  sum_is =
      let xl = wide_x.low in let xh = wide_x.high in let yl = wide_y.low in let yh = wide_y.high in
      let fits : FitsSigned w128 (x +ℤ y) = omega (arith, ints) in
      (λ i. to_z w128 (of_z w128 (px i +ℤ qy i))) ∙ to_z-of_z w128 (x +ℤ y) fits

  pub difference_is : to_z w128 (of_z w128 (p -ℤ q)) ≡ x -ℤ y
  difference_is =
      let xl = wide_x.low in let xh = wide_x.high in let yl = wide_y.low in let yh = wide_y.high in
      let fits : FitsSigned w128 (x -ℤ y) = omega (arith, ints) in
      (λ i. to_z w128 (of_z w128 (px i -ℤ qy i))) ∙ to_z-of_z w128 (x -ℤ y) fits

-- a number of a kind fits, so a product that does not fit is out of range
pub in_range_fits : (kind : Kind) (z : ℤ) → IsTrue (in_range kind z) → FitsSigned w128 z
in_range_fits kind z h = by kind (and_parts (int_le (least (is_signed kind) (width kind)) z)
    (int_le z (greatest (is_signed kind) (width kind))) h)
  where
    by : (kind : Kind) → (IsTrue (int_le (least (is_signed kind) (width kind)) z))
        × (IsTrue (int_le z (greatest (is_signed kind) (width kind)))) → FitsSigned w128 z
    by I4 b = let l = b.0 in let r = b.1 in omega (arith, ints)
    by U4 b = let l = b.0 in let r = b.1 in omega (arith, ints)
    by I8 b = let l = b.0 in let r = b.1 in omega (arith, ints)
    by U8 b = let l = b.0 in let r = b.1 in omega (arith, ints)

pub refused : (kind : Kind) (z : ℤ) → ¬ (FitsSigned w128 z) → None ≡ checked kind z
refused kind z not_fits = by (in_range kind z) refl
  where
    by : (t : Bool) → in_range kind z ≡ t → None ≡ (if t then Some (held kind z) else None)
    by true e = absurd (not_fits (in_range_fits kind z e))
    by false e = refl

-- a shift to the left by fewer than 64 bits fits, too
module _ (x p : ℤ) (k : ℕ) (wide : IsWide x) (small : k < 64) (px : p ≡ x) where
  power_le : 2 ^ k ≤ 2 ^ 63
  power_le = let h : k ≤ 63 = omega arith in pow-le-pow_right (lit< tt) h

  power_is : to_z w128 (1 * 2 ^ k % 2 ^ 128) ≡ pos (2 ^ k)
  power_is =
      let h = power_le in
      let below : 1 * 2 ^ k < 2 ^ 128 = omega arith in
      let half : 2 ^ k < 2 ^ 127 = omega arith in
      ap (to_z w128) (mod-eq_of_lt below ∙ omega arith) ∙ to_z_pos w128 (2 ^ k) half

  scaled_fits : (z : ℤ) → IsWide z → FitsSigned w128 (z *ℤ pos (2 ^ k))
  scaled_fits z h =
      let l = h.low in
      let r = h.high in
      let above : up z ≤ down z + (2 ^ 64 - 1) = omega (arith, ints) in
      let below : down z ≤ up z + 2 ^ 64 = omega (arith, ints) in
      by z above below
    where
      by : (z : ℤ) → up z ≤ down z + (2 ^ 64 - 1) → down z ≤ up z + 2 ^ 64 → FitsSigned w128 (z *ℤ pos (2 ^ k))
      by (pos n) a b = let m : n ≤ 2 ^ 64 - 1 = omega arith in omega (arith, ints, mul-le-mul m power_le)
      by (negsuc n) a b = let m : suc n ≤ 2 ^ 64 = omega arith in omega (arith, ints, mul-le-mul m power_le)

  pub shifted_fits : FitsSigned w128 (p *ℤ to_z w128 (1 * 2 ^ k % 2 ^ 128))
  shifted_fits = subst (FitsSigned w128) (λ i. sym px i *ℤ sym power_is i) (scaled_fits x wide)

  pub shifted_is : to_z w128 (of_z w128 (p *ℤ to_z w128 (1 * 2 ^ k % 2 ^ 128))) ≡ x *ℤ pos (2 ^ k)
  shifted_is = to_z-of_z w128 (p *ℤ to_z w128 (1 * 2 ^ k % 2 ^ 128)) shifted_fits ∙ (λ i. px i *ℤ power_is i)
