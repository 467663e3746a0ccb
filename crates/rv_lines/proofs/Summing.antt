-- Sums and differences that are refused out of range.
use Rattle.std.proofs.Common.{◌≡◌, ◌∙◌, ◌⊎◌, inl, inr, ℕ, suc, ◌+◌, ◌-◌, ◌*◌, ◌%◌, ◌^◌, ◌<◌, ◌≤◌, ℤ, pos, negsuc}
use Rattle.std.proofs.Common.{◌+ℤ◌, ◌-ℤ◌, ◌<ℤ◌, ◌≤ℤ◌, Bool, true, false, not, cond, ◌==◌, nat_le, nat_lt, int_lt}
use Rattle.std.proofs.Common.{FitsSigned, refl, ap}
use Rattle.std.proofs.Common.{sym, subst, arith, List, [], ◌∷◌, slice_index, Some, None}
use Rattle.std.proofs.lemmas.Bool.Decides.{nat_tests}
use Rattle.std.proofs.lemmas.Int.{ints, int_wrap_fits, SFits-int_wrap}
use Rattle.std.specs.Int.{Width, cast_signed, cast_unsigned, int_wrap, w32, w64}
use Rattle.std.specs.Option.{option_map}
use mir.Val.{bits}
use Rattle.num_core.specs.Bits.{low_bits}
use Rattle.num_core.specs.Integers.{IsOfKind, checked, held, in_range, lies_in, number}
use Rattle.num_core.specs.declared.kind.Kind.{Kind}
use Rattle.num_core.specs.declared.kind.Kind.TheVariants.{I4, U4, I8, U8}
use Rattle.num_core.proofs.IntegerLaws.{lies_from_below, lies_from_fits, unsigned-int_wrap}
use Rattle.num_core.proofs.WrapLaws.{int_wrap-more, int_wrap-pos}
use Rattle.rv_isa.specs.declared.ins.Ins.{Ins}
use Rattle.rv_step.specs.Machine.{low_word, one_if, signed_value, with_register}
use Rattle.lir_core.specs.Values.{word_of}
use Rattle.rv_lines.specs.Computing.{adds_checked, if_less, subtracts_checked, unless_same}
use Rattle.rv_lines.specs.Leading.{AnswersOr, AreRegisters, GivesWord, IsKept}
use Rattle.rv_lines.specs.declared.line.Condition.TheVariants.{LessUnsigned, NotEqual}
use Rattle.rv_lines.specs.declared.line.Line.{Line}
use Rattle.rv_lines.specs.declared.line.Line.TheVariants.{Single}
use Rattle.rv_lines.proofs.Converting.{signed_cases_64}
use Rattle.rv_lines.proofs.Leading.{EndsOr, answers_or, by_one, by_two, ends_unless, gives_first, got, has_word, kept}
use Rattle.rv_lines.proofs.Leading.{keeps_28, keeps_29, keeps_7, keeps_all}
use Rattle.rv_lines.proofs.Comparing.{one_fits}
use Rattle.rv_lines.proofs.Tests.{less, less_unsigned_32, signed_of_word}
use Rattle.rv_lines.proofs.Values.{bits_of, difference_32, difference_64, low_below, low_of_wrapped, number_32}
use Rattle.rv_lines.proofs.Values.{number_64}
use Rattle.rv_lines.proofs.Values.{sum_32, sum_64}
use Rattle.rv_lines.proofs.Words.{in_unsigned, is_left, unsigned_32}

-- ---- the word of what is in range

pub mapped : (t : Bool) (value : ℤ)
    → cond t (Some (word_of value)) None ≡ option_map word_of (cond t (Some value) None)
mapped true value = refl
mapped false value = refl

pub of_checked : (lines : List Line) (registers : List ℕ) (label : ℕ) (t : Bool) (value : ℤ)
    → EndsOr lines registers registers 7 label (cond t (Some (word_of value)) None)
    → AnswersOr lines registers 7 label (option_map word_of (cond t (Some value) None))
of_checked lines registers label t value e =
    answers_or lines registers 7 label (option_map word_of (cond t (Some value) None))
    (subst (EndsOr lines registers registers 7 label) (mapped t value) e)

-- ---- int32 values: the result of 64 bits differs from what is left of it

pub refused_32 : (first second : Ins) (label : ℕ) (z : ℤ) (registers : List ℕ) → AreRegisters registers
    → FitsSigned w64 z → GivesWord first registers 28 (word_of z)
    → GivesWord second (with_register registers 28 (word_of z)) 7 (word_of (int_wrap w32 z))
    → AnswersOr (Single first ∷ Single second ∷ unless_same 28 7 label ∷ []) registers 7 label
    (option_map word_of (checked I4 z))
refused_32 first second label z registers has fits gives gives' =
    let p : ℕ = word_of z in
    let q : ℕ = word_of (int_wrap w32 z) in
    let a : List ℕ = with_register registers 28 p in
    let b : List ℕ = with_register a 7 q in
    let has_a : AreRegisters a = has_word registers 28 p (low_below z) has in
    let has_b : AreRegisters b = has_word a 7 q (low_below (int_wrap w32 z)) has_a in
    let at_28 : slice_index b 28 ≡ p =
    kept a 7 28 q (omega arith) ∙ got registers 28 p has (omega arith) (omega arith) in
    let at_7 : slice_index b 7 ≡ q = got a 7 q has_a (omega arith) (omega arith) in
    let test : not (slice_index b 28 == slice_index b 7) ≡ not (in_range I4 z) =
    ap (λ n. not (n == slice_index b 7)) at_28 ∙ ap (λ n. not (p == n)) at_7
    ∙ ap not (is_left w32 z (omega arith) fits) in
    of_checked (Single first ∷ Single second ∷ unless_same 28 7 label ∷ []) registers label (in_range I4 z) (held I4 z)
    (gives_first first (Single second ∷ unless_same 28 7 label ∷ []) registers registers 28 p 7 label _ gives
    (low_below z)
    (gives_first second (unless_same 28 7 label ∷ []) registers a 7 q 7 label _ gives' (low_below (int_wrap w32 z))
    (ends_unless NotEqual 28 7 label registers b q (in_range I4 z) test has_b
    (keeps_7 registers a q (keeps_28 registers registers p (keeps_all registers))) (λ t. at_7))))

sum_fits : (a b : ℤ) → FitsSigned w32 a → FitsSigned w32 b → FitsSigned w64 (a +ℤ b)
sum_fits a b f g = omega (arith, ints)

difference_fits : (a b : ℤ) → FitsSigned w32 a → FitsSigned w32 b → FitsSigned w64 (a -ℤ b)
difference_fits a b f g = omega (arith, ints)

-- the sum of two words is that of their values
sum_of_words : (a b : ℤ) → low_bits 64 (pos (word_of a) +ℤ pos (word_of b)) ≡ word_of (a +ℤ b)
sum_of_words a b = sum_64 (word_of a) (word_of b) a b a b refl refl refl refl ∙ low_of_wrapped (a +ℤ b)

difference_of_words : (a b : ℤ) → low_bits 64 (pos (word_of a) -ℤ pos (word_of b)) ≡ word_of (a -ℤ b)
difference_of_words a b = difference_64 (word_of a) (word_of b) a b a b refl refl refl refl ∙ low_of_wrapped (a -ℤ b)

added_i4 : (x y label : ℕ) (a b : ℤ) (registers : List ℕ) → AreRegisters registers → IsKept x → IsKept y
    → IsOfKind I4 a → IsOfKind I4 b → slice_index registers x ≡ word_of a → slice_index registers y ≡ word_of b
    → AnswersOr (adds_checked I4 x y label) registers 7 label (option_map word_of (checked I4 (a +ℤ b)))
added_i4 x y label a b registers has kx ky f g e e' =
    let p : ℕ = word_of (a +ℤ b) in
    refused_32 (Ins.Add 28 x y) (Ins.Addw 7 x y) label (a +ℤ b) registers has (sum_fits a b f g)
    (by_two (Ins.Add 28 x y) 28 x y (λ m n. low_bits 64 (pos m +ℤ pos n)) (λ m s. refl) registers (word_of a)
    (word_of b)
    p e e' (sum_of_words a b))
    (by_two (Ins.Addw 7 x y) 7 x y (λ m n. low_word (pos m +ℤ pos n)) (λ m s. refl) (with_register registers 28 p)
    (word_of a) (word_of b) (word_of (int_wrap w32 (a +ℤ b)))
    (kept registers 28 x p kx.not_first ∙ e) (kept registers 28 y p ky.not_first ∙ e')
    (sum_32 (word_of a) (word_of b) a b a b refl refl refl refl))

subtracted_i4 : (x y label : ℕ) (a b : ℤ) (registers : List ℕ) → AreRegisters registers → IsKept x → IsKept y
    → IsOfKind I4 a → IsOfKind I4 b → slice_index registers x ≡ word_of a → slice_index registers y ≡ word_of b
    → AnswersOr (subtracts_checked I4 x y label) registers 7 label (option_map word_of (checked I4 (a -ℤ b)))
subtracted_i4 x y label a b registers has kx ky f g e e' =
    let p : ℕ = word_of (a -ℤ b) in
    refused_32 (Ins.Sub 28 x y) (Ins.Subw 7 x y) label (a -ℤ b) registers has (difference_fits a b f g)
    (by_two (Ins.Sub 28 x y) 28 x y (λ m n. low_bits 64 (pos m -ℤ pos n)) (λ m s. refl) registers (word_of a)
    (word_of b)
    p e e' (difference_of_words a b))
    (by_two (Ins.Subw 7 x y) 7 x y (λ m n. low_word (pos m -ℤ pos n)) (λ m s. refl) (with_register registers 28 p)
    (word_of a) (word_of b) (word_of (int_wrap w32 (a -ℤ b)))
    (kept registers 28 x p kx.not_first ∙ e) (kept registers 28 y p ky.not_first ∙ e')
    (difference_32 (word_of a) (word_of b) a b a b refl refl refl refl))

-- ---- values without a sign: what is carried, and what is borrowed

carried_32 : (m n : ℕ) → m < 2 ^ 32 → n < 2 ^ 32 → nat_lt ((m + n) % 2 ^ 32) m ≡ not (nat_le (m + n) (2 ^ 32 - 1))
carried_32 m n h h' = grind (arith, nat_tests)

carried_64 : (m n : ℕ) → m < 2 ^ 64 → n < 2 ^ 64 → nat_lt ((m + n) % 2 ^ 64) m ≡ not (nat_le (m + n) (2 ^ 64 - 1))
carried_64 m n h h' = grind (arith, nat_tests)

pub either_way : (m n : ℕ) → (m < n) ⊎ (n ≤ m)
either_way m n = grind arith

pub lt_true : (m n : ℕ) → m < n → nat_lt m n ≡ true
lt_true m n h = grind (arith, nat_tests)

pub lt_false : (m n : ℕ) → n ≤ m → nat_lt m n ≡ false
lt_false m n h = grind (arith, nat_tests)

borrowed : (w : Width) (m n : ℕ) → m < 2 ^ bits w → nat_lt m n ≡ not (lies_in false w (pos m -ℤ pos n))
borrowed w m n h = elim (either_way m n) [
  | inl less ↦
      let e : pos m -ℤ pos n ≡ negsuc (n - m - 1) = omega (arith, ints, less) in
      lt_true m n less ∙ sym (ap (λ z. not (lies_in false w z)) e)
  | inr more ↦
      let e : pos m -ℤ pos n ≡ pos (m - n) = omega (arith, ints, more) in
      lt_false m n more ∙ sym (ap (λ z. not (lies_in false w z)) e
      ∙ ap not (lies_from_below w (m - n) (omega (arith, h))))
]

-- the bits of what is left of a number without a sign
unsigned_left_32 : (n : ℕ) → cast_unsigned w32 (int_wrap w32 (pos n)) ≡ n % 2 ^ 32
unsigned_left_32 n =
    let e : pos (cast_unsigned w32 (int_wrap w32 (pos n))) ≡ pos (n % 2 ^ 32) = unsigned-int_wrap w32 (pos n) in
    cc

-- one instruction, and a branch where a first word is less than another
refused_less : (ins : Ins) (u v label value : ℕ) (t : Bool) (z : ℤ) (registers : List ℕ) → AreRegisters registers
    → GivesWord ins registers 7 (word_of z)
    → nat_lt (slice_index (with_register registers 7 (word_of z)) u)
    (slice_index (with_register registers 7 (word_of z)) v)
    ≡ not t
    → AnswersOr (Single ins ∷ if_less u v label ∷ []) registers 7 label (option_map word_of (cond t (Some z) None))
refused_less ins u v label value t z registers has gives test =
    let p : ℕ = word_of z in
    let a : List ℕ = with_register registers 7 p in
    of_checked (Single ins ∷ if_less u v label ∷ []) registers label t z
    (gives_first ins (if_less u v label ∷ []) registers registers 7 p 7 label _ gives (low_below z)
    (ends_unless LessUnsigned u v label registers a p t test (has_word registers 7 p (low_below z) has)
    (keeps_7 registers registers p (keeps_all registers))
    (λ true_is. got registers 7 p has (omega arith) (omega arith))))

added_u4 : (x y label : ℕ) (a b : ℤ) (registers : List ℕ) → AreRegisters registers → IsKept x → IsKept y
    → IsOfKind U4 a → IsOfKind U4 b → slice_index registers x ≡ word_of a → slice_index registers y ≡ word_of b
    → AnswersOr (adds_checked U4 x y label) registers 7 label
    (option_map word_of (checked U4 (number U4 a +ℤ number U4 b)))
added_u4 x y label a b registers has kx ky f g e e' =
    let m : ℕ = cast_unsigned w32 a in
    let n : ℕ = cast_unsigned w32 b in
    let s : ℤ = int_wrap w32 (pos (m + n)) in
    let at_7 : slice_index (with_register registers 7 (word_of s)) 7 ≡ word_of s =
    got registers 7 (word_of s) has (omega arith) (omega arith) in
    let at_x : slice_index (with_register registers 7 (word_of s)) x ≡ word_of a =
    kept registers 7 x (word_of s) kx.not_result ∙ e in
    refused_less (Ins.Addw 7 x y) 7 x label 0 (in_range U4 (pos (m + n))) s registers has
    (by_two (Ins.Addw 7 x y) 7 x y (λ i j. low_word (pos i +ℤ pos j)) (λ m s. refl) registers (word_of a) (word_of b)
    (word_of s) e e' (sum_32 (word_of a) (word_of b) a b (pos m) (pos n) refl refl (number_32 a f) (number_32 b g)))
    (ap (λ i. nat_lt i (slice_index (with_register registers 7 (word_of s)) x)) at_7 ∙ ap (nat_lt (word_of s)) at_x
    ∙ less_unsigned_32 s a (SFits-int_wrap w32 (pos (m + n))) f ∙ ap (λ i. nat_lt i m) (unsigned_left_32 (m + n))
    ∙ carried_32 m n (unsigned_32 a f) (unsigned_32 b g) ∙ ap not (sym (in_unsigned w32 (m + n))))

subtracted_u4 : (x y label : ℕ) (a b : ℤ) (registers : List ℕ) → AreRegisters registers → IsKept x → IsKept y
    → IsOfKind U4 a → IsOfKind U4 b → slice_index registers x ≡ word_of a → slice_index registers y ≡ word_of b
    → AnswersOr (subtracts_checked U4 x y label) registers 7 label
    (option_map word_of (checked U4 (number U4 a -ℤ number U4 b)))
subtracted_u4 x y label a b registers has kx ky f g e e' =
    let m : ℕ = cast_unsigned w32 a in
    let n : ℕ = cast_unsigned w32 b in
    let z : ℤ = pos m -ℤ pos n in
    let s : ℤ = int_wrap w32 z in
    let at_x : slice_index (with_register registers 7 (word_of s)) x ≡ word_of a =
    kept registers 7 x (word_of s) kx.not_result ∙ e in
    let at_y : slice_index (with_register registers 7 (word_of s)) y ≡ word_of b =
    kept registers 7 y (word_of s) ky.not_result ∙ e' in
    refused_less (Ins.Subw 7 x y) x y label 0 (in_range U4 z) s registers has
    (by_two (Ins.Subw 7 x y) 7 x y (λ i j. low_word (pos i -ℤ pos j)) (λ m s. refl) registers (word_of a) (word_of b)
    (word_of s) e e' (difference_32 (word_of a) (word_of b) a b (pos m) (pos n) refl refl (number_32 a f)
    (number_32 b g)))
    (ap (λ i. nat_lt i (slice_index (with_register registers 7 (word_of s)) y)) at_x ∙ ap (nat_lt (word_of a)) at_y
    ∙ less_unsigned_32 a b f g ∙ borrowed w32 m n (unsigned_32 a f))

pub unsigned_64 : (a : ℤ) → FitsSigned w64 a → cast_unsigned w64 a < 2 ^ 64
unsigned_64 a fits = subst (λ n. n < 2 ^ 64) (bits_of a fits) (low_below a)

added_u8 : (x y label : ℕ) (a b : ℤ) (registers : List ℕ) → AreRegisters registers → IsKept x → IsKept y
    → IsOfKind U8 a → IsOfKind U8 b → slice_index registers x ≡ word_of a → slice_index registers y ≡ word_of b
    → AnswersOr (adds_checked U8 x y label) registers 7 label
    (option_map word_of (checked U8 (number U8 a +ℤ number U8 b)))
added_u8 x y label a b registers has kx ky f g e e' =
    let m : ℕ = cast_unsigned w64 a in
    let n : ℕ = cast_unsigned w64 b in
    let s : ℤ = int_wrap w64 (pos (m + n)) in
    let at_7 : slice_index (with_register registers 7 (word_of s)) 7 ≡ word_of s =
    got registers 7 (word_of s) has (omega arith) (omega arith) in
    let at_x : slice_index (with_register registers 7 (word_of s)) x ≡ word_of a =
    kept registers 7 x (word_of s) kx.not_result ∙ e in
    refused_less (Ins.Add 7 x y) 7 x label 0 (in_range U8 (pos (m + n))) s registers has
    (by_two (Ins.Add 7 x y) 7 x y (λ i j. low_bits 64 (pos i +ℤ pos j)) (λ m s. refl) registers (word_of a) (word_of b)
    (word_of s) e e' (sum_64 (word_of a) (word_of b) a b (pos m) (pos n) refl refl (number_64 a f) (number_64 b g)))
    (ap (λ i. nat_lt i (slice_index (with_register registers 7 (word_of s)) x)) at_7 ∙ ap (nat_lt (word_of s)) at_x
    ∙ ap (λ i. nat_lt i (word_of a)) (low_of_wrapped (pos (m + n))) ∙ ap (nat_lt ((m + n) % 2 ^ 64)) (bits_of a f)
    ∙ carried_64 m n (unsigned_64 a f) (unsigned_64 b g) ∙ ap not (sym (in_unsigned w64 (m + n))))

subtracted_u8 : (x y label : ℕ) (a b : ℤ) (registers : List ℕ) → AreRegisters registers → IsKept x → IsKept y
    → IsOfKind U8 a → IsOfKind U8 b → slice_index registers x ≡ word_of a → slice_index registers y ≡ word_of b
    → AnswersOr (subtracts_checked U8 x y label) registers 7 label
    (option_map word_of (checked U8 (number U8 a -ℤ number U8 b)))
subtracted_u8 x y label a b registers has kx ky f g e e' =
    let m : ℕ = cast_unsigned w64 a in
    let n : ℕ = cast_unsigned w64 b in
    let z : ℤ = pos m -ℤ pos n in
    let s : ℤ = int_wrap w64 z in
    let at_x : slice_index (with_register registers 7 (word_of s)) x ≡ word_of a =
    kept registers 7 x (word_of s) kx.not_result ∙ e in
    let at_y : slice_index (with_register registers 7 (word_of s)) y ≡ word_of b =
    kept registers 7 y (word_of s) ky.not_result ∙ e' in
    refused_less (Ins.Sub 7 x y) x y label 0 (in_range U8 z) s registers has
    (by_two (Ins.Sub 7 x y) 7 x y (λ i j. low_bits 64 (pos i -ℤ pos j)) (λ m s. refl) registers (word_of a) (word_of b)
    (word_of s) e e' (difference_64 (word_of a) (word_of b) a b (pos m) (pos n) refl refl (number_64 a f)
    (number_64 b g)))
    (ap (λ i. nat_lt i (slice_index (with_register registers 7 (word_of s)) y)) at_x ∙ ap (nat_lt (word_of a)) at_y
    ∙ ap (λ i. nat_lt i (word_of b)) (bits_of a f) ∙ ap (nat_lt m) (bits_of b g) ∙ borrowed w64 m n (unsigned_64 a f))

-- ---- int64 values: whether the result lies on the right side of the first operand

-- what is left of a number in 64 bits, where the number has one bit more; and whether it is the number itself
pub data Left64 : ℤ → ℤ → Bool → Type 0 where
  Within : (z s : ℤ) → s ≡ z → Left64 z s true
  Above : (z s : ℤ) → s +ℤ pos (2 ^ 64) ≡ z → Left64 z s false
  Below : (z s : ℤ) → s ≡ z +ℤ pos (2 ^ 64) → Left64 z s false

left_cases : (z : ℤ) → (pos 0 ≤ℤ (z +ℤ pos (2 ^ 64))) → (z <ℤ pos (2 ^ 64))
    → Left64 z (int_wrap w64 z) (lies_in true w64 z)
left_cases (pos n) low high = elim (either_way n (2 ^ 63)) [
  | inl small ↦
      let fits : FitsSigned w64 (pos n) = record { sfits = small } in
      subst (Left64 (pos n) (int_wrap w64 (pos n))) (sym (lies_from_fits w64 (pos n) fits))
      (Within (pos n) (int_wrap w64 (pos n)) (int_wrap_fits w64 (pos n) fits))
  | inr large ↦
      let below : n < 2 ^ 64 = omega (arith, ints, high) in
      let out : lies_in true w64 (pos n) ≡ false = not_le n large in
      let is : int_wrap w64 (pos n) ≡ negsuc (2 ^ 64 - suc n) = above n large below in
      let sum : negsuc (2 ^ 64 - suc n) +ℤ pos (2 ^ 64) ≡ pos n = omega (arith, ints, below) in
      subst (Left64 (pos n) (int_wrap w64 (pos n))) (sym out)
      (Above (pos n) (int_wrap w64 (pos n)) (ap (λ s. s +ℤ pos (2 ^ 64)) is ∙ sum))
]
  where
    not_le : (n : ℕ) → 2 ^ 63 ≤ n → lies_in true w64 (pos n) ≡ false
    not_le n h = grind (arith, nat_tests)

    above : (n : ℕ) → 2 ^ 63 ≤ n → n < 2 ^ 64 → int_wrap w64 (pos n) ≡ negsuc (2 ^ 64 - suc n)
    above n h h' =
        let same : n % 2 ^ 64 ≡ n = omega (arith, h') in
        int_wrap-pos w64 n ∙ ap (cast_signed w64) same ∙ (elim (signed_cases_64 n h') [
          | inl q ↦ absurd (omega (arith, q.0, h))
          | inr q ↦ q.1
        ])
left_cases (negsuc n) low high = elim (either_way n (2 ^ 63)) [
  | inl small ↦
      let fits : FitsSigned w64 (negsuc n) = record { sfits = small } in
      subst (Left64 (negsuc n) (int_wrap w64 (negsuc n))) (sym (lies_from_fits w64 (negsuc n) fits))
      (Within (negsuc n) (int_wrap w64 (negsuc n)) (int_wrap_fits w64 (negsuc n) fits))
  | inr large ↦
      let below : n < 2 ^ 64 = omega (arith, ints, low) in
      let out : lies_in true w64 (negsuc n) ≡ false = not_ge n large in
      let sum : negsuc n +ℤ pos (2 ^ 64) ≡ pos (2 ^ 64 - suc n) = omega (arith, ints, below) in
      let more : negsuc n +ℤ pos (1 * 2 ^ 64) ≡ pos (2 ^ 64 - suc n) = omega (arith, ints, below) in
      let fits : FitsSigned w64 (pos (2 ^ 64 - suc n)) = record { sfits = omega (arith, large) } in
      let is : int_wrap w64 (negsuc n) ≡ negsuc n +ℤ pos (2 ^ 64) =
      sym (int_wrap-more w64 (negsuc n) 1) ∙ ap (int_wrap w64) more ∙ int_wrap_fits w64 (pos (2 ^ 64 - suc n)) fits
      ∙ sym sum in
      subst (Left64 (negsuc n) (int_wrap w64 (negsuc n))) (sym out) (Below (negsuc n) (int_wrap w64 (negsuc n)) is)
]
  where
    not_ge : (n : ℕ) → 2 ^ 63 ≤ n → lies_in true w64 (negsuc n) ≡ false
    not_ge n h = grind (arith, nat_tests)

lt_yes : (a b : ℤ) → a <ℤ b → int_lt a b ≡ true
lt_yes a b h = grind (arith, ints)

lt_no : (a b : ℤ) → b ≤ℤ a → int_lt a b ≡ false
lt_no a b h = grind (arith, ints)

negative_or_not : (b : ℤ) → (b <ℤ pos 0) ⊎ (pos 0 ≤ℤ b)
negative_or_not (pos n) = inr (omega (arith, ints))
negative_or_not (negsuc n) = inl (omega (arith, ints))

sides : (s t u v : Bool) → s ≡ u → t ≡ v → (one_if s == one_if t) ≡ (one_if u == one_if v)
sides s t u v e f = cc

-- a sum is less than the first operand where the second is negative, unless it was wrapped
sum_sides : (a b s : ℤ) (t : Bool) → Left64 (a +ℤ b) s t → FitsSigned w64 a → FitsSigned w64 b → FitsSigned w64 s
    → (one_if (int_lt s a) == one_if (int_lt b (pos 0))) ≡ t
sum_sides a b s _ (Within _ _ e) f g h = elim (negative_or_not b) [
  | inl less ↦ sides (int_lt s a) (int_lt b (pos 0)) true true (lt_yes s a (omega (arith, ints, less, e)))
      (lt_yes b (pos 0) less)
  | inr more ↦ sides (int_lt s a) (int_lt b (pos 0)) false false (lt_no s a (omega (arith, ints, more, e)))
      (lt_no b (pos 0) more)
]
sum_sides a b s _ (Above _ _ e) f g h =
    sides (int_lt s a) (int_lt b (pos 0)) true false (lt_yes s a (omega (arith, ints, e)))
    (lt_no b (pos 0) (omega (arith, ints, e)))
sum_sides a b s _ (Below _ _ e) f g h =
    sides (int_lt s a) (int_lt b (pos 0)) false true (lt_no s a (omega (arith, ints, e)))
    (lt_yes b (pos 0) (omega (arith, ints, e)))

-- and a difference greater
difference_sides : (a b s : ℤ) (t : Bool) → Left64 (a -ℤ b) s t → FitsSigned w64 a → FitsSigned w64 b
    → FitsSigned w64 s → (one_if (int_lt a s) == one_if (int_lt b (pos 0))) ≡ t
difference_sides a b s _ (Within _ _ e) f g h = elim (negative_or_not b) [
  | inl less ↦ sides (int_lt a s) (int_lt b (pos 0)) true true (lt_yes a s (omega (arith, ints, less, e)))
      (lt_yes b (pos 0) less)
  | inr more ↦ sides (int_lt a s) (int_lt b (pos 0)) false false (lt_no a s (omega (arith, ints, more, e)))
      (lt_no b (pos 0) more)
]
difference_sides a b s _ (Above _ _ e) f g h =
    sides (int_lt a s) (int_lt b (pos 0)) false true (lt_no a s (omega (arith, ints, e)))
    (lt_yes b (pos 0) (omega (arith, ints, e)))
difference_sides a b s _ (Below _ _ e) f g h =
    sides (int_lt a s) (int_lt b (pos 0)) true false (lt_yes a s (omega (arith, ints, e)))
    (lt_no b (pos 0) (omega (arith, ints, e)))

-- the result, on which side it lies, and the sign of the second operand
refused_64 : (first second : Ins) (y label : ℕ) (z b : ℤ) (u : Bool) (registers : List ℕ) → AreRegisters registers
    → IsKept y → FitsSigned w64 b → slice_index registers y ≡ word_of b
    → GivesWord first registers 7 (word_of (int_wrap w64 z))
    → GivesWord second (with_register registers 7 (word_of (int_wrap w64 z))) 28 (one_if u)
    → (one_if u == one_if (int_lt b (pos 0))) ≡ in_range I8 z
    → AnswersOr (Single first ∷ Single second ∷ Single (Ins.Slti 29 y (pos 0)) ∷ unless_same 28 29 label ∷ []) registers
    7
    label (option_map word_of (checked I8 z))
refused_64 first second y label z b u registers has ky fits e gives gives' is =
    let p : ℕ = word_of (int_wrap w64 z) in
    let q : ℕ = one_if (int_lt b (pos 0)) in
    let r1 : List ℕ = with_register registers 7 p in
    let r2 : List ℕ = with_register r1 28 (one_if u) in
    let r3 : List ℕ = with_register r2 29 q in
    let has1 : AreRegisters r1 = has_word registers 7 p (low_below (int_wrap w64 z)) has in
    let has2 : AreRegisters r2 = has_word r1 28 (one_if u) (one_fits u) has1 in
    let has3 : AreRegisters r3 = has_word r2 29 q (one_fits (int_lt b (pos 0))) has2 in
    let at_y : slice_index r2 y ≡ word_of b =
    kept r1 28 y (one_if u) ky.not_first ∙ kept registers 7 y p ky.not_result ∙ e in
    let at_7 : slice_index r3 7 ≡ p =
    kept r2 29 7 q (omega arith) ∙ kept r1 28 7 (one_if u) (omega arith)
    ∙ got registers 7 p has (omega arith) (omega arith) in
    let at_28 : slice_index r3 28 ≡ one_if u =
    kept r2 29 28 q (omega arith) ∙ got r1 28 (one_if u) has1 (omega arith) (omega arith) in
    let at_29 : slice_index r3 29 ≡ q = got r2 29 q has2 (omega arith) (omega arith) in
    let test : not (slice_index r3 28 == slice_index r3 29) ≡ not (in_range I8 z) =
    ap (λ n. not (n == slice_index r3 29)) at_28 ∙ ap (λ n. not (one_if u == n)) at_29 ∙ ap not is in
    let sign : Ins = Ins.Slti 29 y (pos 0) in
    let last : List Line = unless_same 28 29 label ∷ [] in
    of_checked (Single first ∷ Single second ∷ Single sign ∷ last) registers label (in_range I8 z) (held I8 z)
    (gives_first first (Single second ∷ Single sign ∷ last) registers registers 7 p 7 label _ gives
    (low_below (int_wrap w64 z))
    (gives_first second (Single sign ∷ last) registers r1 28 (one_if u) 7 label _ gives' (one_fits u)
    (gives_first sign last registers r2 29 q 7 label _
    (by_one sign 29 y (λ n. one_if (int_lt (signed_value n) (pos 0))) (λ m s. refl) r2 (word_of b) q at_y
    (ap (λ i. one_if (int_lt i (pos 0))) (signed_of_word b fits)))
    (one_fits (int_lt b (pos 0)))
    (ends_unless NotEqual 28 29 label registers r3 p (in_range I8 z) test has3
    (keeps_29 registers r2 q (keeps_28 registers r1 (one_if u) (keeps_7 registers registers p (keeps_all registers))))
    (λ true_is. at_7)))))

wide_sum : (a b : ℤ) → FitsSigned w64 a → FitsSigned w64 b
    → (pos 0 ≤ℤ ((a +ℤ b) +ℤ pos (2 ^ 64))) × ((a +ℤ b) <ℤ pos (2 ^ 64))
wide_sum a b f g = (omega (arith, ints), omega (arith, ints))

wide_difference : (a b : ℤ) → FitsSigned w64 a → FitsSigned w64 b
    → (pos 0 ≤ℤ ((a -ℤ b) +ℤ pos (2 ^ 64))) × ((a -ℤ b) <ℤ pos (2 ^ 64))
wide_difference a b f g = (omega (arith, ints), omega (arith, ints))

added_i8 : (x y label : ℕ) (a b : ℤ) (registers : List ℕ) → AreRegisters registers → IsKept x → IsKept y
    → IsOfKind I8 a → IsOfKind I8 b → slice_index registers x ≡ word_of a → slice_index registers y ≡ word_of b
    → AnswersOr (adds_checked I8 x y label) registers 7 label (option_map word_of (checked I8 (a +ℤ b)))
added_i8 x y label a b registers has kx ky f g e e' =
    let z : ℤ = a +ℤ b in
    let s : ℤ = int_wrap w64 z in
    let p : ℕ = word_of s in
    let range = wide_sum a b f g in
    let left : FitsSigned w64 s = SFits-int_wrap w64 z in
    refused_64 (Ins.Add 7 x y) (Ins.Slt 28 7 x) y label z b (int_lt s a) registers has ky g e'
    (by_two (Ins.Add 7 x y) 7 x y (λ i j. low_bits 64 (pos i +ℤ pos j)) (λ m s. refl) registers (word_of a) (word_of b)
    p e e' (sum_64 (word_of a) (word_of b) a b a b refl refl refl refl))
    (by_two (Ins.Slt 28 7 x) 28 7 x (λ i j. one_if (int_lt (signed_value i) (signed_value j))) (λ m s. refl)
    (with_register registers 7 p) p (word_of a) (one_if (int_lt s a))
    (got registers 7 p has (omega arith) (omega arith)) (kept registers 7 x p kx.not_result ∙ e)
    (ap one_if (less s a left f)))
    (sum_sides a b s (in_range I8 z) (left_cases z range.0 range.1) f g left)

subtracted_i8 : (x y label : ℕ) (a b : ℤ) (registers : List ℕ) → AreRegisters registers → IsKept x → IsKept y
    → IsOfKind I8 a → IsOfKind I8 b → slice_index registers x ≡ word_of a → slice_index registers y ≡ word_of b
    → AnswersOr (subtracts_checked I8 x y label) registers 7 label (option_map word_of (checked I8 (a -ℤ b)))
subtracted_i8 x y label a b registers has kx ky f g e e' =
    let z : ℤ = a -ℤ b in
    let s : ℤ = int_wrap w64 z in
    let p : ℕ = word_of s in
    let range = wide_difference a b f g in
    let left : FitsSigned w64 s = SFits-int_wrap w64 z in
    refused_64 (Ins.Sub 7 x y) (Ins.Slt 28 x 7) y label z b (int_lt a s) registers has ky g e'
    (by_two (Ins.Sub 7 x y) 7 x y (λ i j. low_bits 64 (pos i -ℤ pos j)) (λ m s. refl) registers (word_of a) (word_of b)
    p e e' (difference_64 (word_of a) (word_of b) a b a b refl refl refl refl))
    (by_two (Ins.Slt 28 x 7) 28 x 7 (λ i j. one_if (int_lt (signed_value i) (signed_value j))) (λ m s. refl)
    (with_register registers 7 p) (word_of a) p (one_if (int_lt a s))
    (kept registers 7 x p kx.not_result ∙ e) (got registers 7 p has (omega arith) (omega arith))
    (ap one_if (less a s f left)))
    (difference_sides a b s (in_range I8 z) (left_cases z range.0 range.1) f g left)

-- ---- each kind

pub added_lines : (kind : Kind) (x y label : ℕ) (a b : ℤ) (registers : List ℕ) → AreRegisters registers → IsKept x
    → IsKept y → IsOfKind kind a → IsOfKind kind b → slice_index registers x ≡ word_of a
    → slice_index registers y ≡ word_of b
    → AnswersOr (adds_checked kind x y label) registers 7 label
    (option_map word_of (checked kind (number kind a +ℤ number kind b)))
added_lines I4 = added_i4
added_lines U4 = added_u4
added_lines I8 = added_i8
added_lines U8 = added_u8

pub subtracted_lines : (kind : Kind) (x y label : ℕ) (a b : ℤ) (registers : List ℕ) → AreRegisters registers → IsKept x
    → IsKept y → IsOfKind kind a → IsOfKind kind b → slice_index registers x ≡ word_of a
    → slice_index registers y ≡ word_of b
    → AnswersOr (subtracts_checked kind x y label) registers 7 label
    (option_map word_of (checked kind (number kind a -ℤ number kind b)))
subtracted_lines I4 = subtracted_i4
subtracted_lines U4 = subtracted_u4
subtracted_lines I8 = subtracted_i8
subtracted_lines U8 = subtracted_u8
