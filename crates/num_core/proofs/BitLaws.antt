-- The bit operations of 64 bits on values of 32 bits with their sign extended are those of 32 bits.
use Rattle.std.proofs.Common.{refl, ap, sym, subst, ◌≡◌, ◌∙◌, ◌⊎◌, inl, inr, ℕ, suc, ◌+◌, ◌-◌, ◌/◌, ◌%◌, ◌^◌, ◌<◌, ◌≤◌}
use Rattle.std.proofs.Common.{lit≤, ℤ, pos, negsuc, bit_and, bit_or, bit_xor, FitsSigned, Bool, true, false, arith}
use Rattle.std.proofs.lemmas.Int.{to_z_pos, int_wrap_fits}
use Rattle.std.proofs.lemmas.Nat.{and_mod, or_mod, xor_mod, and_shr, or_shr, xor_shr}
use Rattle.std.proofs.lemmas.Bool.{ltb-true}
use Rattle.std.specs.Int.{w32, w64, cast_signed, cast_unsigned, int_bit_and, int_bit_or, int_bit_xor, int_bit_not}
use mir.Val.{sel}
use mir.ValLaws.{of_z_fits}
use lib.Dec.{ltb}
use lib.Bits.{and_lt, or_lt, xor_lt, and_zero_l, and_zero_r, and_self, or_zero_l, or_zero_r, or_self, xor_zero_l}
use lib.Bits.{xor_zero_r, xor_self}
use Rattle.num_core.proofs.WrapLaws.{int_wrap-cast_signed, cast_unsigned-low, fits_wider}

-- the bits of n from 31 on are all 0, or all 1
abbrev IsExtended : ℕ → Type 0
IsExtended n = (n / 2 ^ 31 ≡ 0) ⊎ (n / 2 ^ 31 ≡ 2 ^ 33 - 1)

extended : (a : ℤ) → FitsSigned w32 a → IsExtended (cast_unsigned w64 a)
extended (pos n) f = let h : n < 2 ^ 31 = f.sfits in inl (omega arith)
extended (negsuc n) f = let h : n < 2 ^ 31 = f.sfits in inr (omega arith)

low_case : (n : ℕ) → n < 2 ^ 31 → FitsSigned w32 (cast_signed w64 n)
low_case n h =
    let small : n < 2 ^ 63 = omega arith in
    subst (FitsSigned w32) (sym (to_z_pos w64 n small)) (record { sfits = h })

high_case : (n : ℕ) → n < 2 ^ 64 → 2 ^ 64 ≤ n + 2 ^ 31 → (t : Bool) → ltb n (2 ^ 63) ≡ t
    → FitsSigned w32 (sel t (pos n) (negsuc (2 ^ 64 - suc n)))
high_case n h k true e = let l = ltb-true n (2 ^ 63) e in absurd (omega arith)
high_case n h k false e = record { sfits = omega arith }

fits : (n : ℕ) → n < 2 ^ 64 → IsExtended n → FitsSigned w32 (cast_signed w64 n)
fits n h (inl e) = low_case n (omega arith)
fits n h (inr e) = high_case n h (omega arith) (ltb n (2 ^ 63)) refl

module _ (op : ℕ → ℕ → ℕ) (shr : (a b k : ℕ) → op a b / 2 ^ k ≡ op (a / 2 ^ k) (b / 2 ^ k))
    (low : (a b k : ℕ) → op a b % 2 ^ k ≡ op (a % 2 ^ k) (b % 2 ^ k))
    (below : (a b : ℕ) → a < 2 ^ 64 → b < 2 ^ 64 → op a b < 2 ^ 64)
    (zeros : op 0 0 ≡ 0) (right : (op 0 (2 ^ 33 - 1) ≡ 0) ⊎ (op 0 (2 ^ 33 - 1) ≡ 2 ^ 33 - 1))
    (left : (op (2 ^ 33 - 1) 0 ≡ 0) ⊎ (op (2 ^ 33 - 1) 0 ≡ 2 ^ 33 - 1))
    (ones : (op (2 ^ 33 - 1) (2 ^ 33 - 1) ≡ 0) ⊎ (op (2 ^ 33 - 1) (2 ^ 33 - 1) ≡ 2 ^ 33 - 1)) where
  one_of : (m n x y : ℕ) → m / 2 ^ 31 ≡ x → n / 2 ^ 31 ≡ y → (op x y ≡ 0) ⊎ (op x y ≡ 2 ^ 33 - 1) → IsExtended (op m n)
  one_of m n x y p q (inl e) = inl (shr m n 31 ∙ (λ i. op (p i) (q i)) ∙ e)
  one_of m n x y p q (inr e) = inr (shr m n 31 ∙ (λ i. op (p i) (q i)) ∙ e)

  kept : (m n : ℕ) → IsExtended m → IsExtended n → IsExtended (op m n)
  kept m n (inl p) (inl q) = one_of m n 0 0 p q (inl zeros)
  kept m n (inl p) (inr q) = one_of m n 0 (2 ^ 33 - 1) p q right
  kept m n (inr p) (inl q) = one_of m n (2 ^ 33 - 1) 0 p q left
  kept m n (inr p) (inr q) = one_of m n (2 ^ 33 - 1) (2 ^ 33 - 1) p q ones

  as_word : (a b : ℤ) → FitsSigned w32 a → FitsSigned w32 b
      → cast_signed w64 (op (cast_unsigned w64 a) (cast_unsigned w64 b)) ≡ cast_signed w32
      (op (cast_unsigned w32 a) (cast_unsigned w32 b))
  as_word a b f g =
      let m = cast_unsigned w64 a in
      let n = cast_unsigned w64 b in
      let under = below m n (of_z_fits w64 a (fits_wider w32 w64 a (lit≤ tt) f)).fits
      (of_z_fits w64 b (fits_wider w32 w64 b (lit≤ tt) g)).fits in
      sym (int_wrap_fits w32 (cast_signed w64 (op m n)) (fits (op m n) under (kept m n (extended a f) (extended b g))))
      ∙ int_wrap-cast_signed w32 w64 (op m n) (lit≤ tt) under
      ∙ ap (cast_signed w32) (low m n 32 ∙
      (λ i. op (cast_unsigned-low w32 w64 a (lit≤ tt) f i) (cast_unsigned-low w32 w64 b (lit≤ tt) g i)))

pub and_of_word : (a b : ℤ) → FitsSigned w32 a → FitsSigned w32 b → int_bit_and w64 a b ≡ int_bit_and w32 a b
and_of_word = as_word bit_and and_shr and_mod (λ a b. and_lt 64 a b) (and_zero_l 0) (inl (and_zero_l (2 ^ 33 - 1)))
    (inl (and_zero_r (2 ^ 33 - 1))) (inr (and_self (2 ^ 33 - 1)))

pub or_of_word : (a b : ℤ) → FitsSigned w32 a → FitsSigned w32 b → int_bit_or w64 a b ≡ int_bit_or w32 a b
or_of_word = as_word bit_or or_shr or_mod (λ a b. or_lt 64 a b) (or_zero_l 0) (inr (or_zero_l (2 ^ 33 - 1)))
    (inr (or_zero_r (2 ^ 33 - 1))) (inr (or_self (2 ^ 33 - 1)))

pub xor_of_word : (a b : ℤ) → FitsSigned w32 a → FitsSigned w32 b → int_bit_xor w64 a b ≡ int_bit_xor w32 a b
xor_of_word = as_word bit_xor xor_shr xor_mod (λ a b. xor_lt 64 a b) (xor_zero_l 0) (inr (xor_zero_l (2 ^ 33 - 1)))
    (inr (xor_zero_r (2 ^ 33 - 1))) (inl (xor_self (2 ^ 33 - 1)))

flipped : (n : ℕ) → n < 2 ^ 64 → IsExtended n → IsExtended (2 ^ 64 - 1 - n)
flipped n h (inl e) = inr (omega arith)
flipped n h (inr e) = inl (omega arith)

pub not_of_word : (a : ℤ) → FitsSigned w32 a → int_bit_not w64 a ≡ int_bit_not w32 a
not_of_word a f =
    let n = cast_unsigned w64 a in
    let h : n < 2 ^ 64 = (of_z_fits w64 a (fits_wider w32 w64 a (lit≤ tt) f)).fits in
    let under : 2 ^ 64 - 1 - n < 2 ^ 64 = omega arith in
    let low : (2 ^ 64 - 1 - n) % 2 ^ 32 ≡ 2 ^ 32 - 1 - n % 2 ^ 32 = omega arith in
    sym (int_wrap_fits w32 (cast_signed w64 (2 ^ 64 - 1 - n))
    (fits (2 ^ 64 - 1 - n) under (flipped n h (extended a f))))
    ∙ int_wrap-cast_signed w32 w64 (2 ^ 64 - 1 - n) (lit≤ tt) under
    ∙ ap (cast_signed w32) (low ∙ ap (λ m. 2 ^ 32 - 1 - m) (cast_unsigned-low w32 w64 a (lit≤ tt) f))
