-- Products that are refused out of range.
use Rattle.std.proofs.Common.{◌≡◌, ◌∙◌, ◌⊎◌, inl, inr, ℕ, suc, ◌-◌, ◌*◌, ◌/◌, ◌%◌, ◌^◌, ◌<◌, ◌≤◌, ℤ, pos, negsuc}
use Rattle.std.proofs.Common.{◌+ℤ◌, ◌*ℤ◌, true, false, not, ◌==◌, nat_le, FitsSigned, refl, ap, sym, subst}
use Rattle.std.proofs.Common.{arith, unsigned_abs, List, [], ◌∷◌, slice_index}
use Rattle.std.proofs.lemmas.Bool.Decides.{nat_tests}
use Rattle.std.proofs.lemmas.Int.{ints, fits_signed_mul, unsigned_abs-mul, SFits-int_wrap}
use Rattle.std.proofs.lemmas.Nat.{mul-le, mul-lt}
use Rattle.std.specs.Int.{cast_signed, cast_unsigned, int_shr, int_wrap, w32, w64}
use Rattle.std.specs.Option.{option_map}
use Rattle.num_core.specs.Bits.{low_bits}
use Rattle.num_core.specs.Integers.{IsOfKind, checked, held, in_range, lies_in, number}
use Rattle.num_core.specs.declared.kind.Kind.{Kind}
use Rattle.num_core.specs.declared.kind.Kind.TheVariants.{I4, U4, I8, U8}
use Rattle.rv_isa.specs.declared.ins.Ins.{Ins}
use Rattle.rv_step.specs.Machine.{low_word, signed_value, upper_bits, with_register}
use Rattle.lir_core.specs.Values.{word_of}
use Rattle.rv_lines.specs.Computing.{multiplies_checked, unless_same}
use Rattle.rv_lines.specs.Leading.{AnswersOr, AreRegisters, IsKept}
use Rattle.rv_lines.specs.declared.line.Condition.TheVariants.{NotEqual}
use Rattle.rv_lines.specs.declared.line.Line.{Line}
use Rattle.rv_lines.specs.declared.line.Line.TheVariants.{Single}
use Rattle.rv_lines.proofs.Converting.{signed_cases_64, zeros_32}
use Rattle.rv_lines.proofs.Leading.{by_one, by_two, ends_unless, gives_first, got, has_word, kept, keeps_28, keeps_29}
use Rattle.rv_lines.proofs.Leading.{keeps_7, keeps_all}
use Rattle.rv_lines.proofs.Summing.{either_way, of_checked, refused_32}
use Rattle.rv_lines.proofs.Tests.{signed_of_word}
use Rattle.rv_lines.proofs.Values.{bits_of, low_below, low_of_wrapped, left_32, number_64, product_32, product_64}
use Rattle.rv_lines.proofs.Values.{signed_low_64}
use Rattle.rv_lines.proofs.Words.{in_unsigned, low_32, low_small, unsigned_32}

-- how great the values of a kind are without their sign
great_32 : (a : ℤ) → FitsSigned w32 a → unsigned_abs a ≤ 2 ^ 31
great_32 (pos n) fits = let h : n < 2 ^ 31 = fits.sfits in omega (arith, h)
great_32 (negsuc n) fits = let h : n < 2 ^ 31 = fits.sfits in omega (arith, h)

great_64 : (a : ℤ) → FitsSigned w64 a → unsigned_abs a ≤ 2 ^ 63
great_64 (pos n) fits = let h : n < 2 ^ 63 = fits.sfits in omega (arith, h)
great_64 (negsuc n) fits = let h : n < 2 ^ 63 = fits.sfits in omega (arith, h)

-- ---- int32 values

product_of_words : (a b : ℤ) → low_bits 64 (pos (word_of a) *ℤ pos (word_of b)) ≡ word_of (a *ℤ b)
product_of_words a b = product_64 (word_of a) (word_of b) a b a b refl refl refl refl ∙ low_of_wrapped (a *ℤ b)

multiplied_i4 : (x y label : ℕ) (a b : ℤ) (registers : List ℕ) → AreRegisters registers → IsKept x → IsKept y
    → IsOfKind I4 a → IsOfKind I4 b → slice_index registers x ≡ word_of a → slice_index registers y ≡ word_of b
    → AnswersOr (multiplies_checked I4 x y label) registers 7 label (option_map word_of (checked I4 (a *ℤ b)))
multiplied_i4 x y label a b registers has kx ky f g e e' =
    let p : ℕ = word_of (a *ℤ b) in
    let fits : FitsSigned w64 (a *ℤ b) =
    fits_signed_mul w64 a b (2 ^ 31) (2 ^ 31) (great_32 a f) (great_32 b g) (omega arith) in
    refused_32 (Ins.Mul 28 x y) (Ins.Mulw 7 x y) label (a *ℤ b) registers has fits
    (by_two (Ins.Mul 28 x y) 28 x y (λ m n. low_bits 64 (pos m *ℤ pos n)) (λ m s. refl) registers (word_of a)
    (word_of b)
    p e e' (product_of_words a b))
    (by_two (Ins.Mulw 7 x y) 7 x y (λ m n. low_word (pos m *ℤ pos n)) (λ m s. refl) (with_register registers 28 p)
    (word_of a) (word_of b) (word_of (int_wrap w32 (a *ℤ b)))
    (kept registers 28 x p kx.not_first ∙ e) (kept registers 28 y p ky.not_first ∙ e')
    (product_32 (word_of a) (word_of b) a b a b refl refl refl refl))

-- ---- int32 values without a sign

upper_none_32 : (n : ℕ) → n < 2 ^ 64 → (n / 2 ^ 32 == 0) ≡ nat_le n (2 ^ 32 - 1)
upper_none_32 n h = grind (arith, nat_tests)

pub low_word_left : (n : ℕ) → low_word (pos n +ℤ pos 0) ≡ word_of (int_wrap w32 (pos n))
low_word_left n =
    let none : pos n +ℤ pos 0 ≡ pos n = omega (arith, ints) in
    left_32 (pos n +ℤ pos 0) (pos n) (ap (int_wrap w32) none)

-- a register gets the 32 bits of a value, by two instructions
multiplied_u4 : (x y label : ℕ) (a b : ℤ) (registers : List ℕ) → AreRegisters registers → IsKept x → IsKept y
    → IsOfKind U4 a → IsOfKind U4 b → slice_index registers x ≡ word_of a → slice_index registers y ≡ word_of b
    → AnswersOr (multiplies_checked U4 x y label) registers 7 label
    (option_map word_of (checked U4 (number U4 a *ℤ number U4 b)))
multiplied_u4 x y label a b registers has kx ky f g e e' =
    let m : ℕ = cast_unsigned w32 a in
    let n : ℕ = cast_unsigned w32 b in
    let below : m * n < 2 ^ 32 * 2 ^ 32 = mul-lt m n (2 ^ 32) (2 ^ 32) (unsigned_32 a f) (unsigned_32 b g) in
    let small : m < 2 ^ 64 = let h = unsigned_32 a f in omega (arith, h) in
    let small' : n < 2 ^ 64 = let h = unsigned_32 b g in omega (arith, h) in
    let whole : m * n < 2 ^ 64 = omega (arith, below) in
    let up : ℕ = low_bits 64 (pos (word_of a * 2 ^ 32)) in
    let up' : ℕ = low_bits 64 (pos (word_of b * 2 ^ 32)) in
    let high : ℕ = m * n / 2 ^ 32 in
    let p : ℕ = word_of (int_wrap w32 (pos (m * n))) in
    let high_fits : high < 2 ^ 64 = omega (arith, whole) in
    let r1 : List ℕ = with_register registers 28 up in
    let r2 : List ℕ = with_register r1 28 m in
    let r3 : List ℕ = with_register r2 29 up' in
    let r4 : List ℕ = with_register r3 29 n in
    let r5 : List ℕ = with_register r4 7 (m * n) in
    let r6 : List ℕ = with_register r5 28 high in
    let r7 : List ℕ = with_register r6 7 p in
    let has1 : AreRegisters r1 = has_word registers 28 up (low_below (pos (word_of a * 2 ^ 32))) has in
    let has2 : AreRegisters r2 = has_word r1 28 m small has1 in
    let has3 : AreRegisters r3 = has_word r2 29 up' (low_below (pos (word_of b * 2 ^ 32))) has2 in
    let has4 : AreRegisters r4 = has_word r3 29 n small' has3 in
    let has5 : AreRegisters r5 = has_word r4 7 (m * n) whole has4 in
    let has6 : AreRegisters r6 = has_word r5 28 high high_fits has5 in
    let has7 : AreRegisters r7 = has_word r6 7 p (low_below (int_wrap w32 (pos (m * n)))) has6 in
    let at_28 : slice_index r7 28 ≡ high =
    kept r6 7 28 p (omega arith) ∙ got r5 28 high has5 (omega arith) (omega arith) in
    let at_7 : slice_index r7 7 ≡ p = got r6 7 p has6 (omega arith) (omega arith) in
    let test : not (slice_index r7 28 == slice_index r7 0) ≡ not (in_range U4 (pos (m * n))) =
    ap (λ i. not (i == slice_index r7 0)) at_28 ∙ ap (λ i. not (high == i)) has7.x0
    ∙ ap not (upper_none_32 (m * n) whole ∙ sym (in_unsigned w32 (m * n))) in
    let last : List Line = unless_same 28 0 label ∷ [] in
    let l6 : List Line = Single (Ins.Addiw 7 7 (pos 0)) ∷ last in
    let l5 : List Line = Single (Ins.Srli 28 7 32) ∷ l6 in
    let l4 : List Line = Single (Ins.Mul 7 28 29) ∷ l5 in
    let l3 : List Line = Single (Ins.Srli 29 29 32) ∷ l4 in
    let l2 : List Line = Single (Ins.Slli 29 y 32) ∷ l3 in
    let l1 : List Line = Single (Ins.Srli 28 28 32) ∷ l2 in
    of_checked (Single (Ins.Slli 28 x 32) ∷ l1) registers label (in_range U4 (pos (m * n))) (held U4 (pos (m * n)))
    (gives_first (Ins.Slli 28 x 32) l1 registers registers 28 up 7 label _
    (by_one (Ins.Slli 28 x 32) 28 x (λ i. low_bits 64 (pos (i * 2 ^ 32))) (λ m s. refl) registers (word_of a) up e refl)
    (low_below (pos (word_of a * 2 ^ 32)))
    (gives_first (Ins.Srli 28 28 32) l2 registers r1 28 m 7 label _
    (by_one (Ins.Srli 28 28 32) 28 28 (λ i. i / 2 ^ 32) (λ m s. refl) r1 up m
    (got registers 28 up has (omega arith) (omega arith)) (zeros_32 (word_of a) ∙ low_32 a f)) small
    (gives_first (Ins.Slli 29 y 32) l3 registers r2 29 up' 7 label _
    (by_one (Ins.Slli 29 y 32) 29 y (λ i. low_bits 64 (pos (i * 2 ^ 32))) (λ m s. refl) r2 (word_of b) up'
    (kept r1 28 y m ky.not_first ∙ kept registers 28 y up ky.not_first ∙ e') refl)
    (low_below (pos (word_of b * 2 ^ 32)))
    (gives_first (Ins.Srli 29 29 32) l4 registers r3 29 n 7 label _
    (by_one (Ins.Srli 29 29 32) 29 29 (λ i. i / 2 ^ 32) (λ m s. refl) r3 up' n
    (got r2 29 up' has2 (omega arith) (omega arith)) (zeros_32 (word_of b) ∙ low_32 b g)) small'
    (gives_first (Ins.Mul 7 28 29) l5 registers r4 7 (m * n) 7 label _
    (by_two (Ins.Mul 7 28 29) 7 28 29 (λ i j. low_bits 64 (pos i *ℤ pos j)) (λ m s. refl) r4 m n (m * n)
    (kept r3 29 28 n (omega arith) ∙ kept r2 29 28 up' (omega arith) ∙ got r1 28 m has1 (omega arith) (omega arith))
    (got r3 29 n has3 (omega arith) (omega arith)) (low_small (m * n) whole)) whole
    (gives_first (Ins.Srli 28 7 32) l6 registers r5 28 high 7 label _
    (by_one (Ins.Srli 28 7 32) 28 7 (λ i. i / 2 ^ 32) (λ m s. refl) r5 (m * n) high
    (got r4 7 (m * n) has4 (omega arith) (omega arith)) refl) high_fits
    (gives_first (Ins.Addiw 7 7 (pos 0)) last registers r6 7 p 7 label _
    (by_one (Ins.Addiw 7 7 (pos 0)) 7 7 (λ i. low_word (pos i +ℤ pos 0)) (λ m s. refl) r6 (m * n) p
    (kept r5 28 7 high (omega arith) ∙ got r4 7 (m * n) has4 (omega arith) (omega arith)) (low_word_left (m * n)))
    (low_below (int_wrap w32 (pos (m * n))))
    (ends_unless NotEqual 28 0 label registers r7 p (in_range U4 (pos (m * n))) test has7
    (keeps_7 registers r6 p (keeps_28 registers r5 high (keeps_7 registers r4 (m * n) (keeps_29 registers r3 n
    (keeps_29 registers r2 up' (keeps_28 registers r1 m (keeps_28 registers registers up (keeps_all registers))))))))
    (λ true_is. at_7)))))))))

-- ---- int64 values: the upper 64 bits are the sign of the lower ones

-- copies of the sign of what is left in 64 bits
abbrev pub sign_word : ℤ → ℕ
sign_word z = low_bits 64 (int_shr (int_wrap w64 z) 63)

sign_word_of : (z : ℤ) (n : ℕ) → n < 2 ^ 64 → low_bits 64 z ≡ n
    → ((n < 2 ^ 63) × (sign_word z ≡ 0)) ⊎ ((2 ^ 63 ≤ n) × (sign_word z ≡ 2 ^ 64 - 1))
sign_word_of z n h e =
    let left : int_wrap w64 z ≡ cast_signed w64 n = sym (signed_low_64 z) ∙ ap (cast_signed w64) e in
    elim (signed_cases_64 n h) [
      | inl q ↦
          let none : n / 2 ^ 63 ≡ 0 = omega (arith, q.0) in
          inl (q.0, ap (λ i. low_bits 64 (int_shr i 63)) (left ∙ q.1) ∙ ap (λ i. low_bits 64 (pos i)) none)
      | inr q ↦
          let none : (2 ^ 64 - suc n) / 2 ^ 63 ≡ 0 = omega (arith, q.0, h) in
          inr (q.0, ap (λ i. low_bits 64 (int_shr i 63)) (left ∙ q.1) ∙ ap (λ i. low_bits 64 (negsuc i)) none)
    ]

pub eq_yes : (m n : ℕ) → m ≡ n → (m == n) ≡ true
eq_yes m n e = grind (arith, nat_tests)

pub eq_no : (m n : ℕ) → (m < n) ⊎ (n < m) → (m == n) ≡ false
eq_no m n h = grind (arith, nat_tests)

inside_pos : (n : ℕ) → n < 2 ^ 63 → lies_in true w64 (pos n) ≡ true
inside_pos n h = grind (arith, nat_tests)

outside_pos : (n : ℕ) → 2 ^ 63 ≤ n → lies_in true w64 (pos n) ≡ false
outside_pos n h = grind (arith, nat_tests)

inside_neg : (n : ℕ) → n < 2 ^ 63 → lies_in true w64 (negsuc n) ≡ true
inside_neg n h = grind (arith, nat_tests)

outside_neg : (n : ℕ) → 2 ^ 63 ≤ n → lies_in true w64 (negsuc n) ≡ false
outside_neg n h = grind (arith, nat_tests)

upper_is_sign : (z : ℤ) → unsigned_abs z ≤ 2 ^ 126 → (upper_bits z == sign_word z) ≡ lies_in true w64 z
upper_is_sign (pos n) h =
    let up : upper_bits (pos n) ≡ n / 2 ^ 64 = omega (arith, h) in
    elim (sign_word_of (pos n) (n % 2 ^ 64) (omega arith) refl) [
      | inl q ↦ ap (λ i. i == sign_word (pos n)) up ∙ ap (λ i. n / 2 ^ 64 == i) q.1 ∙ (elim (either_way n (2 ^ 64)) [
        | inl small ↦ eq_yes (n / 2 ^ 64) 0 (omega (arith, small))
            ∙ sym (inside_pos n (omega (arith, small, q.0)))
        | inr large ↦ eq_no (n / 2 ^ 64) 0 (inr (omega (arith, large))) ∙ sym (outside_pos n (omega (arith, large)))
      ])
      | inr q ↦ ap (λ i. i == sign_word (pos n)) up ∙ ap (λ i. n / 2 ^ 64 == i) q.1
          ∙ eq_no (n / 2 ^ 64) (2 ^ 64 - 1) (inl (omega (arith, h))) ∙ sym (outside_pos n (omega (arith, q.0)))
    ]
upper_is_sign (negsuc n) h =
    let up : upper_bits (negsuc n) ≡ 2 ^ 64 - 1 - n / 2 ^ 64 = omega (arith, h) in
    elim (sign_word_of (negsuc n) (2 ^ 64 - 1 - n % 2 ^ 64) (omega arith) refl) [
      | inl q ↦ ap (λ i. i == sign_word (negsuc n)) up ∙ ap (λ i. 2 ^ 64 - 1 - n / 2 ^ 64 == i) q.1
          ∙ eq_no (2 ^ 64 - 1 - n / 2 ^ 64) 0 (inr (omega (arith, h))) ∙ sym (outside_neg n (omega (arith, q.0)))
      | inr q ↦ ap (λ i. i == sign_word (negsuc n)) up ∙ ap (λ i. 2 ^ 64 - 1 - n / 2 ^ 64 == i) q.1
          ∙ (elim (either_way n (2 ^ 64)) [
            | inl small ↦ eq_yes (2 ^ 64 - 1 - n / 2 ^ 64) (2 ^ 64 - 1) (omega (arith, small))
                ∙ sym (inside_neg n (omega (arith, small, q.0)))
            | inr large ↦ eq_no (2 ^ 64 - 1 - n / 2 ^ 64) (2 ^ 64 - 1) (inl (omega (arith, large)))
                ∙ sym (outside_neg n (omega (arith, large)))
          ])
    ]

sign_fits : (z : ℤ) → sign_word z < 2 ^ 64
sign_fits z = low_below (int_shr (int_wrap w64 z) 63)

upper_fits : (z : ℤ) → upper_bits z < 2 ^ 64
upper_fits (pos n) = omega arith
upper_fits (negsuc n) = omega arith

multiplied_i8 : (x y label : ℕ) (a b : ℤ) (registers : List ℕ) → AreRegisters registers → IsKept x → IsKept y
    → IsOfKind I8 a → IsOfKind I8 b → slice_index registers x ≡ word_of a → slice_index registers y ≡ word_of b
    → AnswersOr (multiplies_checked I8 x y label) registers 7 label (option_map word_of (checked I8 (a *ℤ b)))
multiplied_i8 x y label a b registers has kx ky f g e e' =
    let z : ℤ = a *ℤ b in
    let high : ℕ = upper_bits z in
    let p : ℕ = word_of (int_wrap w64 z) in
    let q : ℕ = sign_word z in
    let product : unsigned_abs a * unsigned_abs b ≤ 2 ^ 63 * 2 ^ 63 =
    mul-le (unsigned_abs a) (unsigned_abs b) (2 ^ 63) (2 ^ 63) (great_64 a f) (great_64 b g) in
    let great : unsigned_abs z ≤ 2 ^ 126 = omega (arith, product, unsigned_abs-mul a b) in
    let r1 : List ℕ = with_register registers 28 high in
    let r2 : List ℕ = with_register r1 7 p in
    let r3 : List ℕ = with_register r2 29 q in
    let has1 : AreRegisters r1 = has_word registers 28 high (upper_fits z) has in
    let has2 : AreRegisters r2 = has_word r1 7 p (low_below (int_wrap w64 z)) has1 in
    let has3 : AreRegisters r3 = has_word r2 29 q (sign_fits z) has2 in
    let at_7_then : slice_index r2 7 ≡ p = got r1 7 p has1 (omega arith) (omega arith) in
    let at_7 : slice_index r3 7 ≡ p = kept r2 29 7 q (omega arith) ∙ at_7_then in
    let at_28 : slice_index r3 28 ≡ high =
    kept r2 29 28 q (omega arith) ∙ kept r1 7 28 p (omega arith)
    ∙ got registers 28 high has (omega arith) (omega arith) in
    let at_29 : slice_index r3 29 ≡ q = got r2 29 q has2 (omega arith) (omega arith) in
    let test : not (slice_index r3 28 == slice_index r3 29) ≡ not (in_range I8 z) =
    ap (λ n. not (n == slice_index r3 29)) at_28 ∙ ap (λ n. not (high == n)) at_29 ∙ ap not (upper_is_sign z great) in
    let last : List Line = unless_same 28 29 label ∷ [] in
    let l2 : List Line = Single (Ins.Srai 29 7 63) ∷ last in
    let l1 : List Line = Single (Ins.Mul 7 x y) ∷ l2 in
    of_checked (Single (Ins.Mulh 28 x y) ∷ l1) registers label (in_range I8 z) (held I8 z)
    (gives_first (Ins.Mulh 28 x y) l1 registers registers 28 high 7 label _
    (by_two (Ins.Mulh 28 x y) 28 x y (λ i j. upper_bits (signed_value i *ℤ signed_value j)) (λ m s. refl) registers
    (word_of a) (word_of b) high e e'
    (ap (λ i. upper_bits (i *ℤ signed_value (word_of b))) (signed_of_word a f)
    ∙ ap (λ i. upper_bits (a *ℤ i)) (signed_of_word b g))) (upper_fits z)
    (gives_first (Ins.Mul 7 x y) l2 registers r1 7 p 7 label _
    (by_two (Ins.Mul 7 x y) 7 x y (λ i j. low_bits 64 (pos i *ℤ pos j)) (λ m s. refl) r1 (word_of a) (word_of b) p
    (kept registers 28 x high kx.not_first ∙ e) (kept registers 28 y high ky.not_first ∙ e')
    (product_64 (word_of a) (word_of b) a b a b refl refl refl refl)) (low_below (int_wrap w64 z))
    (gives_first (Ins.Srai 29 7 63) last registers r2 29 q 7 label _
    (by_one (Ins.Srai 29 7 63) 29 7 (λ i. low_bits 64 (int_shr (signed_value i) 63)) (λ m s. refl) r2 p q at_7_then
    (ap (λ i. low_bits 64 (int_shr i 63)) (signed_of_word (int_wrap w64 z) (SFits-int_wrap w64 z)))) (sign_fits z)
    (ends_unless NotEqual 28 29 label registers r3 p (in_range I8 z) test has3
    (keeps_29 registers r2 q (keeps_7 registers r1 p (keeps_28 registers registers high (keeps_all registers))))
    (λ true_is. at_7)))))

-- ---- int64 values without a sign: there are no upper bits

upper_none_64 : (n : ℕ) → n < 2 ^ 128 → (upper_bits (pos n) == 0) ≡ nat_le n (2 ^ 64 - 1)
upper_none_64 n h =
    let up : upper_bits (pos n) ≡ n / 2 ^ 64 = omega (arith, h) in
    ap (λ i. i == 0) up ∙ none n
  where
    none : (n : ℕ) → (n / 2 ^ 64 == 0) ≡ nat_le n (2 ^ 64 - 1)
    none n = grind (arith, nat_tests)

multiplied_u8 : (x y label : ℕ) (a b : ℤ) (registers : List ℕ) → AreRegisters registers → IsKept x → IsKept y
    → IsOfKind U8 a → IsOfKind U8 b → slice_index registers x ≡ word_of a → slice_index registers y ≡ word_of b
    → AnswersOr (multiplies_checked U8 x y label) registers 7 label
    (option_map word_of (checked U8 (number U8 a *ℤ number U8 b)))
multiplied_u8 x y label a b registers has kx ky f g e e' =
    let m : ℕ = cast_unsigned w64 a in
    let n : ℕ = cast_unsigned w64 b in
    let small : m < 2 ^ 64 = subst (λ i. i < 2 ^ 64) (bits_of a f) (low_below a) in
    let small' : n < 2 ^ 64 = subst (λ i. i < 2 ^ 64) (bits_of b g) (low_below b) in
    let below : m * n < 2 ^ 64 * 2 ^ 64 = mul-lt m n (2 ^ 64) (2 ^ 64) small small' in
    let z : ℤ = pos (m * n) in
    let high : ℕ = upper_bits z in
    let p : ℕ = word_of (int_wrap w64 z) in
    let r1 : List ℕ = with_register registers 28 high in
    let r2 : List ℕ = with_register r1 7 p in
    let has1 : AreRegisters r1 = has_word registers 28 high (upper_fits z) has in
    let has2 : AreRegisters r2 = has_word r1 7 p (low_below (int_wrap w64 z)) has1 in
    let at_28 : slice_index r2 28 ≡ high =
    kept r1 7 28 p (omega arith) ∙ got registers 28 high has (omega arith) (omega arith) in
    let at_7 : slice_index r2 7 ≡ p = got r1 7 p has1 (omega arith) (omega arith) in
    let test : not (slice_index r2 28 == slice_index r2 0) ≡ not (in_range U8 z) =
    ap (λ i. not (i == slice_index r2 0)) at_28 ∙ ap (λ i. not (high == i)) has2.x0
    ∙ ap not (upper_none_64 (m * n) (omega (arith, below)) ∙ sym (in_unsigned w64 (m * n))) in
    let last : List Line = unless_same 28 0 label ∷ [] in
    let l1 : List Line = Single (Ins.Mul 7 x y) ∷ last in
    of_checked (Single (Ins.Mulhu 28 x y) ∷ l1) registers label (in_range U8 z) (held U8 z)
    (gives_first (Ins.Mulhu 28 x y) l1 registers registers 28 high 7 label _
    (by_two (Ins.Mulhu 28 x y) 28 x y (λ i j. upper_bits (pos i *ℤ pos j)) (λ m s. refl) registers
    (word_of a) (word_of b) high e e'
    (ap (λ i. upper_bits (pos i *ℤ pos (word_of b))) (bits_of a f)
    ∙ ap (λ i. upper_bits (pos m *ℤ pos i)) (bits_of b g)))
    (upper_fits z)
    (gives_first (Ins.Mul 7 x y) last registers r1 7 p 7 label _
    (by_two (Ins.Mul 7 x y) 7 x y (λ i j. low_bits 64 (pos i *ℤ pos j)) (λ m s. refl) r1 (word_of a) (word_of b) p
    (kept registers 28 x high kx.not_first ∙ e) (kept registers 28 y high ky.not_first ∙ e')
    (product_64 (word_of a) (word_of b) a b (pos m) (pos n) refl refl (number_64 a f) (number_64 b g)))
    (low_below (int_wrap w64 z))
    (ends_unless NotEqual 28 0 label registers r2 p (in_range U8 z) test has2
    (keeps_7 registers r1 p (keeps_28 registers registers high (keeps_all registers)))
    (λ true_is. at_7))))

pub multiplied_lines : (kind : Kind) (x y label : ℕ) (a b : ℤ) (registers : List ℕ) → AreRegisters registers → IsKept x
    → IsKept y → IsOfKind kind a → IsOfKind kind b → slice_index registers x ≡ word_of a
    → slice_index registers y ≡ word_of b
    → AnswersOr (multiplies_checked kind x y label) registers 7 label
    (option_map word_of (checked kind (number kind a *ℤ number kind b)))
multiplied_lines I4 = multiplied_i4
multiplied_lines U4 = multiplied_u4
multiplied_lines I8 = multiplied_i8
multiplied_lines U8 = multiplied_u8
