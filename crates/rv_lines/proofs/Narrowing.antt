-- Conversions that are refused out of range.
use Rattle.std.proofs.Common.{◌≡◌, ◌∙◌, inl, inr, ℕ, suc, ◌-◌, ◌*◌, ◌/◌, ◌%◌, ◌^◌, ◌<◌, ◌≤◌, ℤ, pos, negsuc}
use Rattle.std.proofs.Common.{◌+ℤ◌, Bool, true, false, not, cond, ◌==◌, nat_le, nat_lt, int_lt, FitsSigned, refl, ap}
use Rattle.std.proofs.Common.{sym}
use Rattle.std.proofs.Common.{arith, unsigned_abs, List, [], ◌∷◌, ◌++◌, slice_index, Some, None}
use Rattle.std.proofs.lemmas.Bool.{false≢true}
use Rattle.std.proofs.lemmas.Bool.Decides.{nat_tests}
use Rattle.std.proofs.lemmas.Int.{ints, int_wrap_fits}
use native.Mathlib.Nat.{mod-eq_of_lt, mod-lt}
use Rattle.std.specs.Int.{Width, cast_unsigned, int_shr, int_wrap, w8, w16, w32, w64}
use Rattle.std.specs.Option.{option_map}
use mir.Val.{bits, hbits}
use Rattle.num_core.specs.Bits.{low_bits}
use Rattle.num_core.specs.Integers.{IsOfKind, in_range_of_type, lies_in, number}
use Rattle.num_core.specs.declared.kind.Kind.{Kind}
use Rattle.num_core.specs.declared.kind.Kind.TheVariants.{I4, U4, I8, U8}
use Rattle.num_core.specs.declared.kind.Narrow.{Narrow}
use Rattle.num_core.specs.declared.kind.Narrow.TheVariants as narrow
use Rattle.num_core.proofs.IntegerLaws.{fits_from_lies, lies_from_below, lies_from_fits}
use Rattle.num_core.proofs.WrapLaws.{fits_wider}
use Rattle.rv_isa.specs.declared.ins.Ins.{Ins}
use Rattle.rv_step.specs.Machine.{low_word, signed_value, with_register}
use Rattle.lir_core.specs.Values.{value_in_range, word_of}
use Rattle.rv_lines.specs.Computing.{converts_checked, extends_by_zeros, keeps, keeps_low, keeps_low_signed}
use Rattle.rv_lines.specs.Computing.{keeps_unsigned, narrows_to_32, unless_same}
use Rattle.rv_lines.specs.Leading.{AnswersOr, AreRegisters, IsKept, LeadsTo}
use Rattle.rv_lines.specs.declared.line.Condition.TheVariants.{Less, NotEqual}
use Rattle.rv_lines.specs.declared.line.Line.{Line}
use Rattle.rv_lines.specs.declared.line.Line.TheVariants.{Single}
use Rattle.rv_lines.proofs.Converting.{sign_of_16, sign_of_32, sign_of_8, zeros_32, zeros_33, zeros_48, zeros_49}
use Rattle.rv_lines.proofs.Converting.{extends_zeros, zeros_56, zeros_57}
use Rattle.rv_lines.proofs.Leading.{EndsOr, branches_unless, by_one, ends_over, ends_unless, gives_first, got, has_word}
use Rattle.rv_lines.proofs.Leading.{kept, keeps_7, keeps_all}
use Rattle.rv_lines.proofs.Multiplying.{eq_no, eq_yes, low_word_left}
use Rattle.rv_lines.proofs.Summing.{either_way, lt_false, lt_true, of_checked, unsigned_64}
use Rattle.rv_lines.proofs.Tests.{less}
use Rattle.rv_lines.proofs.Values.{bits_of, low_below, low_of_wrapped, number_32, number_64, wide}
use Rattle.rv_lines.proofs.Words.{eq_turned, in_unsigned, is_equal, is_left, low_32, low_small, not_negative}
use Rattle.rv_lines.proofs.Words.{unsigned_32}

-- ---- the lines

-- the word itself, in x7
keeps_last : (x label : ℕ) (a v : ℤ) (origin registers : List ℕ) → AreRegisters registers
    → ((r : ℕ) → IsKept r → slice_index registers r ≡ slice_index origin r)
    → slice_index registers x ≡ word_of a → word_of a ≡ word_of v
    → EndsOr (keeps 7 x) origin registers 7 label (Some (word_of v))
keeps_last x label a v origin registers has same e is =
    let none : low_bits 64 (pos (word_of a) +ℤ pos 0) ≡ word_of a = plus_none (word_of a) (low_below a) in
    let new : List ℕ = with_register registers 7 (word_of v) in
    gives_first (Ins.Addi 7 x (pos 0)) [] origin registers 7 (word_of v) 7 label (Some (word_of v))
    (by_one (Ins.Addi 7 x (pos 0)) 7 x (λ i. low_bits 64 (pos i +ℤ pos 0)) (λ m s. refl) registers (word_of a)
    (word_of v)
    e (none ∙ is)) (low_below v)
    (ends_over origin new 7 label (word_of v) (has_word registers 7 (word_of v) (low_below v) has)
    (got registers 7 (word_of v) has (omega arith) (omega arith))
    (λ r ne k. kept registers 7 r (word_of v) k.not_result ∙ same r k))
  where
    plus_none : (n : ℕ) → n < 2 ^ 64 → low_bits 64 (pos n +ℤ pos 0) ≡ n
    plus_none n h = omega (arith, ints, h)

-- where the number is always in range
kept_always : (x label : ℕ) (a v : ℤ) (t : Bool) (registers : List ℕ) → AreRegisters registers
    → slice_index registers x ≡ word_of a → t ≡ true → word_of a ≡ word_of v
    → AnswersOr (keeps 7 x) registers 7 label (option_map word_of (cond t (Some v) None))
kept_always x label a v true registers has e true_is is =
    of_checked (keeps 7 x) registers label true v
    (keeps_last x label a v registers registers has (keeps_all registers) e is)
kept_always x label a v false registers has e true_is is = absurd (false≢true true_is)

-- where it is in range unless the word is negative
kept_positive : (x label : ℕ) (a v : ℤ) (t : Bool) (registers : List ℕ) → AreRegisters registers
    → FitsSigned w64 a → slice_index registers x ≡ word_of a → int_lt a (pos 0) ≡ not t
    → (t ≡ true → word_of a ≡ word_of v)
    → AnswersOr (keeps_unsigned x label) registers 7 label (option_map word_of (cond t (Some v) None))
kept_positive x label a v t registers has fits e test is =
    of_checked (keeps_unsigned x label) registers label t v
    (branches_unless Less x 0 label (keeps 7 x) registers registers 7 (word_of v) t
    (ap (λ i. int_lt (signed_value i) (signed_value (slice_index registers 0))) e
    ∙ ap (λ i. int_lt (signed_value (word_of a)) (signed_value i)) has.x0
    ∙ less a (pos 0) fits (record { sfits = omega arith }) ∙ test) has (keeps_all registers)
    (λ true_is. keeps_last x label a v registers registers has (keeps_all registers) e (is true_is)))

-- where it is in range if x7 gets it back from its low bits, with zeros before them
kept_low : (others x label q : ℕ) (a v : ℤ) (t : Bool) (rest : List Line) (registers : List ℕ) → AreRegisters registers
    → IsKept x → slice_index registers x ≡ word_of a → q < 2 ^ 64
    → low_bits 64 (pos (word_of a * 2 ^ others)) / 2 ^ others ≡ q → (q == word_of a) ≡ t
    → ((new : List ℕ) → AreRegisters new → ((r : ℕ) → IsKept r → slice_index new r ≡ slice_index registers r)
    → slice_index new 7 ≡ q → t ≡ true → EndsOr rest registers new 7 label (Some (word_of v)))
    → AnswersOr (keeps_low others x label ++ rest) registers 7 label (option_map word_of (cond t (Some v) None))
kept_low others x label q a v t rest registers has kx e fits is test behind =
    let up : ℕ = low_bits 64 (pos (word_of a * 2 ^ others)) in
    let r1 : List ℕ = with_register registers 7 up in
    let r2 : List ℕ = with_register r1 7 q in
    let has1 : AreRegisters r1 = has_word registers 7 up (low_below (pos (word_of a * 2 ^ others))) has in
    let has2 : AreRegisters r2 = has_word r1 7 q fits has1 in
    let at_7 : slice_index r2 7 ≡ q = got r1 7 q has1 (omega arith) (omega arith) in
    let at_x : slice_index r2 x ≡ word_of a =
    kept r1 7 x q kx.not_result ∙ kept registers 7 x up kx.not_result ∙ e in
    let same : (r : ℕ) → IsKept r → slice_index r2 r ≡ slice_index registers r =
    keeps_7 registers r1 q (keeps_7 registers registers up (keeps_all registers)) in
    let last : List Line = unless_same 7 x label ∷ rest in
    of_checked (Single (Ins.Slli 7 x others) ∷ Single (Ins.Srli 7 7 others) ∷ last) registers label t v
    (gives_first (Ins.Slli 7 x others) (Single (Ins.Srli 7 7 others) ∷ last) registers registers 7 up 7 label _
    (by_one (Ins.Slli 7 x others) 7 x (λ i. low_bits 64 (pos (i * 2 ^ others))) (λ m s. refl) registers (word_of a) up e
    refl) (low_below (pos (word_of a * 2 ^ others)))
    (gives_first (Ins.Srli 7 7 others) last registers r1 7 q 7 label _
    (by_one (Ins.Srli 7 7 others) 7 7 (λ i. i / 2 ^ others) (λ m s. refl) r1 up q
    (got registers 7 up has (omega arith) (omega arith)) is) fits
    (branches_unless NotEqual 7 x label rest registers r2 7 (word_of v) t
    (ap (λ i. not (i == slice_index r2 x)) at_7 ∙ ap (λ i. not (q == i)) at_x ∙ ap not test) has2 same
    (behind r2 has2 same at_7))))

-- and with copies of their sign
kept_low_signed : (others x label : ℕ) (z a v : ℤ) (t : Bool) (registers : List ℕ) → AreRegisters registers
    → IsKept x → slice_index registers x ≡ word_of a
    → int_shr (signed_value (low_bits 64 (pos (word_of a * 2 ^ others)))) others ≡ z → (word_of z == word_of a) ≡ t
    → (t ≡ true → word_of z ≡ word_of v)
    → AnswersOr (keeps_low_signed others x label) registers 7 label (option_map word_of (cond t (Some v) None))
kept_low_signed others x label z a v t registers has kx e is test back =
    let up : ℕ = low_bits 64 (pos (word_of a * 2 ^ others)) in
    let q : ℕ = word_of z in
    let r1 : List ℕ = with_register registers 7 up in
    let r2 : List ℕ = with_register r1 7 q in
    let has1 : AreRegisters r1 = has_word registers 7 up (low_below (pos (word_of a * 2 ^ others))) has in
    let has2 : AreRegisters r2 = has_word r1 7 q (low_below z) has1 in
    let at_7 : slice_index r2 7 ≡ q = got r1 7 q has1 (omega arith) (omega arith) in
    let at_x : slice_index r2 x ≡ word_of a =
    kept r1 7 x q kx.not_result ∙ kept registers 7 x up kx.not_result ∙ e in
    let same : (r : ℕ) → IsKept r → slice_index r2 r ≡ slice_index registers r =
    keeps_7 registers r1 q (keeps_7 registers registers up (keeps_all registers)) in
    let last : List Line = unless_same 7 x label ∷ [] in
    of_checked (Single (Ins.Slli 7 x others) ∷ Single (Ins.Srai 7 7 others) ∷ last) registers label t v
    (gives_first (Ins.Slli 7 x others) (Single (Ins.Srai 7 7 others) ∷ last) registers registers 7 up 7 label _
    (by_one (Ins.Slli 7 x others) 7 x (λ i. low_bits 64 (pos (i * 2 ^ others))) (λ m s. refl) registers (word_of a) up e
    refl) (low_below (pos (word_of a * 2 ^ others)))
    (gives_first (Ins.Srai 7 7 others) last registers r1 7 q 7 label _
    (by_one (Ins.Srai 7 7 others) 7 7 (λ i. low_bits 64 (int_shr (signed_value i) others)) (λ m s. refl) r1 up q
    (got registers 7 up has (omega arith) (omega arith)) (ap (low_bits 64) is)) (low_below z)
    (ends_unless NotEqual 7 x label registers r2 (word_of v) t
    (ap (λ i. not (i == slice_index r2 x)) at_7 ∙ ap (λ i. not (q == i)) at_x ∙ ap not test) has2 same
    (λ true_is. at_7 ∙ back true_is))))

-- ---- when the low bits are all there is

-- a value whose word is small is read as its word
number_of_small : (kind : Kind) (a : ℤ) → IsOfKind kind a → word_of a < 2 ^ 32 → number kind a ≡ pos (word_of a)
number_of_small I4 (pos n) f h = let s : n < 2 ^ 31 = f.sfits in ap pos (sym (low_small n (omega (arith, s))))
number_of_small U4 (pos n) f h = let s : n < 2 ^ 31 = f.sfits in ap pos (sym (low_small n (omega (arith, s))))
number_of_small I8 (pos n) f h = let s : n < 2 ^ 63 = f.sfits in ap pos (sym (low_small n (omega (arith, s))))
number_of_small U8 (pos n) f h = let s : n < 2 ^ 63 = f.sfits in ap pos (sym (low_small n (omega (arith, s))))
number_of_small I4 (negsuc n) f h = let s : n < 2 ^ 31 = f.sfits in absurd (omega (arith, s, h))
number_of_small U4 (negsuc n) f h = let s : n < 2 ^ 31 = f.sfits in absurd (omega (arith, s, h))
number_of_small I8 (negsuc n) f h = let s : n < 2 ^ 63 = f.sfits in absurd (omega (arith, s, h))
number_of_small U8 (negsuc n) f h = let s : n < 2 ^ 63 = f.sfits in absurd (omega (arith, s, h))

-- a number below a bound, as its kind reads it, is a word below it
as_bound : (n k : ℕ) → 0 < k → nat_lt n k ≡ nat_le n (k - 1)
as_bound n k h = grind (arith, nat_tests)

signed_below : (w : Width) (a : ℤ) → FitsSigned w64 a → 0 < 2 ^ bits w → 2 ^ bits w ≤ 2 ^ 32
    → nat_lt (word_of a) (2 ^ bits w) ≡ lies_in false w a
signed_below w (pos n) f some most =
    let s : n < 2 ^ 63 = f.sfits in
    ap (λ i. nat_lt i (2 ^ bits w)) (low_small n (omega (arith, s))) ∙ as_bound n (2 ^ bits w) some
    ∙ sym (in_unsigned w n)
signed_below w (negsuc n) f some most =
    let s : n < 2 ^ 63 = f.sfits in
    lt_false (word_of (negsuc n)) (2 ^ bits w) (omega (arith, s, most))

unsigned_below_32 : (a : ℤ) (k : ℕ) → FitsSigned w32 a → k ≤ 2 ^ 31
    → nat_lt (word_of a) k ≡ nat_lt (cast_unsigned w32 a) k
unsigned_below_32 (pos n) k f most =
    let s : n < 2 ^ 31 = f.sfits in ap (λ i. nat_lt i k) (low_small n (omega (arith, s)))
unsigned_below_32 (negsuc n) k f most =
    let s : n < 2 ^ 31 = f.sfits in
    lt_false (word_of (negsuc n)) k (omega (arith, s, most))
    ∙ sym (lt_false (cast_unsigned w32 (negsuc n)) k (omega (arith, s, most)))

unsigned_below_64 : (a : ℤ) (k : ℕ) → FitsSigned w64 a → nat_lt (word_of a) k ≡ nat_lt (cast_unsigned w64 a) k
unsigned_below_64 a k f = ap (λ i. nat_lt i k) (bits_of a f)

-- whether a number is its own remainder
own_rest : (p k : ℕ) → 0 < k → (p % k == p) ≡ nat_lt p k
own_rest p k h = elim (either_way p k) [
  | inl less ↦ eq_yes (p % k) p (mod-eq_of_lt less) ∙ sym (lt_true p k less)
  | inr more ↦
      let below : p % k < k = mod-lt p h in
      eq_no (p % k) p (inl (omega (arith, below, more))) ∙ sym (lt_false p k more)
]

is_below : (p k : ℕ) → nat_lt p k ≡ true → p < k
is_below p k t = grind (arith, nat_tests)

-- so the value that is held of it has the same word
held_small : (kind : Kind) (a : ℤ) (k : ℕ) → IsOfKind kind a → k ≤ 2 ^ 31 → nat_lt (word_of a) k ≡ true
    → word_of a ≡ word_of (int_wrap w32 (number kind a))
held_small kind a k f most t =
    let below : word_of a < k = is_below (word_of a) k t in
    let small : word_of a < 2 ^ 31 = omega (arith, below, most) in
    sym (ap word_of (ap (int_wrap w32) (number_of_small kind a f (omega (arith, small)))
    ∙ int_wrap_fits w32 (pos (word_of a)) (record { sfits = small }))
    ∙ low_small (word_of a) (omega (arith, small)))

-- what stays of x7 where it is the word
stays : (label q : ℕ) (a v : ℤ) (t : Bool) (registers : List ℕ) → (q == word_of a) ≡ t
    → (t ≡ true → word_of a ≡ word_of v)
    → (new : List ℕ) → AreRegisters new → ((r : ℕ) → IsKept r → slice_index new r ≡ slice_index registers r)
    → slice_index new 7 ≡ q → t ≡ true → EndsOr [] registers new 7 label (Some (word_of v))
stays label q a v t registers test is new has same at_7 true_is =
    ends_over registers new 7 label (word_of v) has
    (at_7 ∙ is_equal q (word_of a) (test ∙ true_is) ∙ is true_is) (λ r ne k. same r k)

-- what is narrowed to 32 bits behind the branch
narrowed : (label q : ℕ) (a v : ℤ) (t : Bool) (registers : List ℕ) → (q == word_of a) ≡ t
    → (t ≡ true → word_of (int_wrap w32 (pos (word_of a))) ≡ word_of v)
    → (new : List ℕ) → AreRegisters new → ((r : ℕ) → IsKept r → slice_index new r ≡ slice_index registers r)
    → slice_index new 7 ≡ q → t ≡ true → EndsOr (narrows_to_32 7 7) registers new 7 label (Some (word_of v))
narrowed label q a v t registers test is new has same at_7 true_is =
    let last : List ℕ = with_register new 7 (word_of v) in
    gives_first (Ins.Addiw 7 7 (pos 0)) [] registers new 7 (word_of v) 7 label (Some (word_of v))
    (by_one (Ins.Addiw 7 7 (pos 0)) 7 7 (λ i. low_word (pos i +ℤ pos 0)) (λ m s. refl) new (word_of a) (word_of v)
    (at_7 ∙ is_equal q (word_of a) (test ∙ true_is)) (low_word_left (word_of a) ∙ is true_is)) (low_below v)
    (ends_over registers last 7 label (word_of v) (has_word new 7 (word_of v) (low_below v) has)
    (got new 7 (word_of v) has (omega arith) (omega arith))
    (λ r ne k. kept new 7 r (word_of v) k.not_result ∙ same r k))

-- to a type of fewer than 32 bits, or to int32
by_zeros : (others k label x : ℕ) (kind : Kind) (a : ℤ) (t : Bool) (registers : List ℕ) → AreRegisters registers
    → IsKept x → IsOfKind kind a → slice_index registers x ≡ word_of a
    → low_bits 64 (pos (word_of a * 2 ^ others)) / 2 ^ others ≡ word_of a % k → 0 < k → k ≤ 2 ^ 31
    → nat_lt (word_of a) k ≡ t
    → AnswersOr (keeps_low others x label) registers 7 label
    (option_map word_of (cond t (Some (int_wrap w32 (number kind a))) None))
by_zeros others k label x kind a t registers has kx f e is some most below =
    let q : ℕ = word_of a % k in
    let rest : q < k = mod-lt (word_of a) some in
    let test : (q == word_of a) ≡ t = own_rest (word_of a) k some ∙ below in
    let v : ℤ = int_wrap w32 (number kind a) in
    let back : t ≡ true → word_of a ≡ word_of v = λ true_is. held_small kind a k f most (below ∙ true_is) in
    kept_low others x label q a v t [] registers has kx e (omega (arith, rest, most)) is test
    (stays label q a v t registers test back)

-- and to uint32
by_zeros_32 : (label x : ℕ) (kind : Kind) (a : ℤ) (t : Bool) (registers : List ℕ) → AreRegisters registers
    → IsKept x → IsOfKind kind a → slice_index registers x ≡ word_of a → nat_lt (word_of a) (2 ^ 32) ≡ t
    → AnswersOr (keeps_low 32 x label ++ narrows_to_32 7 7) registers 7 label
    (option_map word_of (cond t (Some (int_wrap w32 (number kind a))) None))
by_zeros_32 label x kind a t registers has kx f e below =
    let q : ℕ = word_of a % 2 ^ 32 in
    let test : (q == word_of a) ≡ t = own_rest (word_of a) (2 ^ 32) (omega arith) ∙ below in
    let v : ℤ = int_wrap w32 (number kind a) in
    let back : t ≡ true → word_of (int_wrap w32 (pos (word_of a))) ≡ word_of v =
    λ true_is. ap (λ z. word_of (int_wrap w32 z))
    (sym (number_of_small kind a f (is_below (word_of a) (2 ^ 32) (below ∙ true_is)))) in
    kept_low 32 x label q a v t (narrows_to_32 7 7) registers has kx e (omega arith) (zeros_32 (word_of a)) test
    (narrowed label q a v t registers test back)

-- by copies of the sign, where the value is read with one
by_sign : (w : Width) (others label x : ℕ) (a : ℤ) (registers : List ℕ) → AreRegisters registers → IsKept x
    → FitsSigned w64 a → bits w ≤ 32 → slice_index registers x ≡ word_of a
    → int_shr (signed_value (low_bits 64 (pos (word_of a * 2 ^ others)))) others ≡ int_wrap w a
    → AnswersOr (keeps_low_signed others x label) registers 7 label
    (option_map word_of (cond (lies_in true w a) (Some (int_wrap w32 a)) None))
by_sign w others label x a registers has kx f narrow e is =
    let wide_narrow : bits w ≤ 64 = omega (arith, narrow) in
    kept_low_signed others x label (int_wrap w a) a (int_wrap w32 a) (lies_in true w a) registers has kx e is
    (eq_turned (word_of (int_wrap w a)) (word_of a) ∙ is_left w a wide_narrow f)
    (λ true_is. let fits : FitsSigned w a = fits_from_lies w a true_is in
    ap word_of (int_wrap_fits w a fits ∙ sym (int_wrap_fits w32 a (fits_wider w w32 a narrow fits))))

-- ---- when a number is in range unless the word is negative

not_negative_u4 : (a : ℤ) → FitsSigned w32 a → int_lt a (pos 0) ≡ not (lies_in true w32 (number U4 a))
not_negative_u4 (pos n) f = not_negative n ∙ ap not (sym (lies_from_fits w32 (pos n) f))
not_negative_u4 (negsuc n) f =
    let s : n < 2 ^ 31 = f.sfits in
    ap not (sym (above (2 ^ 32 - suc n) (omega (arith, s))))
  where
    above : (n : ℕ) → 2 ^ 31 ≤ n → lies_in true w32 (pos n) ≡ false
    above n h = grind (arith, nat_tests)

not_negative_u8 : (a : ℤ) → FitsSigned w64 a → int_lt a (pos 0) ≡ not (lies_in true w64 (number U8 a))
not_negative_u8 (pos n) f = not_negative n ∙ ap not (sym (lies_from_fits w64 (pos n) f))
not_negative_u8 (negsuc n) f =
    let s : n < 2 ^ 63 = f.sfits in
    ap not (sym (above (2 ^ 64 - suc n) (omega (arith, s))))
  where
    above : (n : ℕ) → 2 ^ 63 ≤ n → lies_in true w64 (pos n) ≡ false
    above n h = grind (arith, nat_tests)

positive_in : (w : Width) (a : ℤ) → unsigned_abs a ≤ 2 ^ bits w - 1 → 0 < 2 ^ bits w
    → int_lt a (pos 0) ≡ not (lies_in false w a)
positive_in w (pos n) h some = not_negative n ∙ ap not (sym (lies_from_below w n (omega (arith, h, some))))
positive_in w (negsuc n) h some = refl

-- the value that is held of a number that was read without a sign is the value
held_unsigned_32 : (a : ℤ) → FitsSigned w32 a → word_of a ≡ word_of (int_wrap w32 (number U4 a))
held_unsigned_32 a f = ap word_of (sym (number_32 a f ∙ int_wrap_fits w32 a f))

held_unsigned_64 : (a : ℤ) → FitsSigned w64 a → word_of a ≡ word_of (int_wrap w64 (number U8 a))
held_unsigned_64 a f = ap word_of (sym (number_64 a f ∙ int_wrap_fits w64 a f))

held_itself : (w : Width) (a : ℤ) → FitsSigned w a → word_of a ≡ word_of (int_wrap w a)
held_itself w a f = ap word_of (sym (int_wrap_fits w a f))

-- 32 bits with zeros before them
widened : (label x : ℕ) (a : ℤ) (t : Bool) (registers : List ℕ) → AreRegisters registers → FitsSigned w32 a
    → slice_index registers x ≡ word_of a → t ≡ true
    → AnswersOr (extends_by_zeros 32 7 x) registers 7 label
    (option_map word_of (cond t (Some (int_wrap w64 (number U4 a))) None))
widened label x a false registers has f e true_is = absurd (false≢true true_is)
widened label x a true registers has f e true_is =
    let m : ℕ = cast_unsigned w32 a in
    let bound : m < 2 ^ 32 = unsigned_32 a f in
    let small : m < 2 ^ 64 = omega (arith, bound) in
    let v : ℤ = int_wrap w64 (pos m) in
    let same : m ≡ word_of v = sym (low_of_wrapped (pos m) ∙ low_small m small) in
    let there : LeadsTo (extends_by_zeros 32 7 x) registers 7 (word_of v) =
    extends_zeros 32 7 x (word_of a) (word_of v) registers has (omega arith) (omega arith) e
    (zeros_32 (word_of a) ∙ low_32 a f ∙ same) (low_below v) in
    record {
      new = there.new;
      leads = there.leads;
      registers_then = there.registers_then;
      result = there.result;
      others = λ r ne k. there.others r ne;
    }

great : (a : ℤ) (k : ℕ) → (w : Width) → FitsSigned w a → 2 ^ hbits w ≤ k → unsigned_abs a ≤ k
great (pos n) k w f h = omega (arith, f.sfits, h)
great (negsuc n) k w f h = omega (arith, f.sfits, h)

-- ---- each conversion

pub narrowed_lines : (to : Narrow) (kind : Kind) (x label : ℕ) (a : ℤ) (registers : List ℕ) → AreRegisters registers
    → IsKept x → IsOfKind kind a → slice_index registers x ≡ word_of a
    → AnswersOr (converts_checked to kind x label) registers 7 label (option_map word_of (value_in_range to kind a))
narrowed_lines narrow.I1 I4 x label a registers has kx f e =
    by_sign w8 56 label x a registers has kx (wide I4 a f) (omega arith) e (sign_of_8 (word_of a) a refl)
narrowed_lines narrow.I1 U4 x label a registers has kx f e =
    by_zeros 57 (2 ^ 7) label x U4 a (in_range_of_type narrow.I1 (number U4 a)) registers has kx f e
    (zeros_57 (word_of a)) (omega arith) (omega arith)
    (unsigned_below_32 a (2 ^ 7) f (omega arith) ∙ as_bound (cast_unsigned w32 a) (2 ^ 7) (omega arith))
narrowed_lines narrow.I1 I8 x label a registers has kx f e =
    by_sign w8 56 label x a registers has kx f (omega arith) e (sign_of_8 (word_of a) a refl)
narrowed_lines narrow.I1 U8 x label a registers has kx f e =
    by_zeros 57 (2 ^ 7) label x U8 a (in_range_of_type narrow.I1 (number U8 a)) registers has kx f e
    (zeros_57 (word_of a)) (omega arith) (omega arith)
    (unsigned_below_64 a (2 ^ 7) f ∙ as_bound (cast_unsigned w64 a) (2 ^ 7) (omega arith))
narrowed_lines narrow.U1 I4 x label a registers has kx f e =
    by_zeros 56 (2 ^ 8) label x I4 a (in_range_of_type narrow.U1 a) registers has kx f e
    (zeros_56 (word_of a)) (omega arith) (omega arith)
    (signed_below w8 a (wide I4 a f) (omega arith) (omega arith))
narrowed_lines narrow.U1 U4 x label a registers has kx f e =
    by_zeros 56 (2 ^ 8) label x U4 a (in_range_of_type narrow.U1 (number U4 a)) registers has kx f e
    (zeros_56 (word_of a)) (omega arith) (omega arith)
    (unsigned_below_32 a (2 ^ 8) f (omega arith) ∙ as_bound (cast_unsigned w32 a) (2 ^ 8) (omega arith)
    ∙ sym (in_unsigned w8 (cast_unsigned w32 a)))
narrowed_lines narrow.U1 I8 x label a registers has kx f e =
    by_zeros 56 (2 ^ 8) label x I8 a (in_range_of_type narrow.U1 a) registers has kx f e
    (zeros_56 (word_of a)) (omega arith) (omega arith)
    (signed_below w8 a f (omega arith) (omega arith))
narrowed_lines narrow.U1 U8 x label a registers has kx f e =
    by_zeros 56 (2 ^ 8) label x U8 a (in_range_of_type narrow.U1 (number U8 a)) registers has kx f e
    (zeros_56 (word_of a)) (omega arith) (omega arith)
    (unsigned_below_64 a (2 ^ 8) f ∙ as_bound (cast_unsigned w64 a) (2 ^ 8) (omega arith)
    ∙ sym (in_unsigned w8 (cast_unsigned w64 a)))
narrowed_lines narrow.I2 I4 x label a registers has kx f e =
    by_sign w16 48 label x a registers has kx (wide I4 a f) (omega arith) e (sign_of_16 (word_of a) a refl)
narrowed_lines narrow.I2 U4 x label a registers has kx f e =
    by_zeros 49 (2 ^ 15) label x U4 a (in_range_of_type narrow.I2 (number U4 a)) registers has kx f e
    (zeros_49 (word_of a)) (omega arith) (omega arith)
    (unsigned_below_32 a (2 ^ 15) f (omega arith) ∙ as_bound (cast_unsigned w32 a) (2 ^ 15) (omega arith))
narrowed_lines narrow.I2 I8 x label a registers has kx f e =
    by_sign w16 48 label x a registers has kx f (omega arith) e (sign_of_16 (word_of a) a refl)
narrowed_lines narrow.I2 U8 x label a registers has kx f e =
    by_zeros 49 (2 ^ 15) label x U8 a (in_range_of_type narrow.I2 (number U8 a)) registers has kx f e
    (zeros_49 (word_of a)) (omega arith) (omega arith)
    (unsigned_below_64 a (2 ^ 15) f ∙ as_bound (cast_unsigned w64 a) (2 ^ 15) (omega arith))
narrowed_lines narrow.U2 I4 x label a registers has kx f e =
    by_zeros 48 (2 ^ 16) label x I4 a (in_range_of_type narrow.U2 a) registers has kx f e
    (zeros_48 (word_of a)) (omega arith) (omega arith)
    (signed_below w16 a (wide I4 a f) (omega arith) (omega arith))
narrowed_lines narrow.U2 U4 x label a registers has kx f e =
    by_zeros 48 (2 ^ 16) label x U4 a (in_range_of_type narrow.U2 (number U4 a)) registers has kx f e
    (zeros_48 (word_of a)) (omega arith) (omega arith)
    (unsigned_below_32 a (2 ^ 16) f (omega arith) ∙ as_bound (cast_unsigned w32 a) (2 ^ 16) (omega arith)
    ∙ sym (in_unsigned w16 (cast_unsigned w32 a)))
narrowed_lines narrow.U2 I8 x label a registers has kx f e =
    by_zeros 48 (2 ^ 16) label x I8 a (in_range_of_type narrow.U2 a) registers has kx f e
    (zeros_48 (word_of a)) (omega arith) (omega arith)
    (signed_below w16 a f (omega arith) (omega arith))
narrowed_lines narrow.U2 U8 x label a registers has kx f e =
    by_zeros 48 (2 ^ 16) label x U8 a (in_range_of_type narrow.U2 (number U8 a)) registers has kx f e
    (zeros_48 (word_of a)) (omega arith) (omega arith)
    (unsigned_below_64 a (2 ^ 16) f ∙ as_bound (cast_unsigned w64 a) (2 ^ 16) (omega arith)
    ∙ sym (in_unsigned w16 (cast_unsigned w64 a)))
narrowed_lines narrow.I4 I4 x label a registers has kx f e =
    kept_always x label a (int_wrap w32 a) (in_range_of_type narrow.I4 a) registers has e (lies_from_fits w32 a f)
    (held_itself w32 a f)
narrowed_lines narrow.I4 U4 x label a registers has kx f e =
    kept_positive x label a (int_wrap w32 (number U4 a)) (in_range_of_type narrow.I4 (number U4 a)) registers has
    (wide U4 a f) e (not_negative_u4 a f) (λ true_is. held_unsigned_32 a f)
narrowed_lines narrow.I4 I8 x label a registers has kx f e =
    by_sign w32 32 label x a registers has kx f (omega arith) e (sign_of_32 (word_of a) a refl)
narrowed_lines narrow.I4 U8 x label a registers has kx f e =
    by_zeros 33 (2 ^ 31) label x U8 a (in_range_of_type narrow.I4 (number U8 a)) registers has kx f e
    (zeros_33 (word_of a)) (omega arith) (omega arith)
    (unsigned_below_64 a (2 ^ 31) f ∙ as_bound (cast_unsigned w64 a) (2 ^ 31) (omega arith))
narrowed_lines narrow.U4 I4 x label a registers has kx f e =
    kept_positive x label a (int_wrap w32 a) (in_range_of_type narrow.U4 a) registers has
    (wide I4 a f) e (positive_in w32 a (great a (2 ^ 32 - 1) w32 f (omega arith)) (omega arith))
    (λ true_is. held_itself w32 a f)
narrowed_lines narrow.U4 U4 x label a registers has kx f e =
    kept_always x label a (int_wrap w32 (number U4 a)) (in_range_of_type narrow.U4 (number U4 a)) registers has e
    (lies_from_below w32 (cast_unsigned w32 a) (unsigned_32 a f)) (held_unsigned_32 a f)
narrowed_lines narrow.U4 I8 x label a registers has kx f e =
    by_zeros_32 label x I8 a (in_range_of_type narrow.U4 a) registers has kx f e
    (signed_below w32 a f (omega arith) (omega arith))
narrowed_lines narrow.U4 U8 x label a registers has kx f e =
    by_zeros_32 label x U8 a (in_range_of_type narrow.U4 (number U8 a)) registers has kx f e
    (unsigned_below_64 a (2 ^ 32) f ∙ as_bound (cast_unsigned w64 a) (2 ^ 32) (omega arith)
    ∙ sym (in_unsigned w32 (cast_unsigned w64 a)))
narrowed_lines narrow.I8 I4 x label a registers has kx f e =
    kept_always x label a (int_wrap w64 a) (in_range_of_type narrow.I8 a) registers has e
    (lies_from_fits w64 a (wide I4 a f)) (held_itself w64 a (wide I4 a f))
narrowed_lines narrow.I8 U4 x label a registers has kx f e =
    let bound : cast_unsigned w32 a < 2 ^ 32 = unsigned_32 a f in
    let small : cast_unsigned w32 a < 2 ^ 63 = omega (arith, bound) in
    widened label x a (in_range_of_type narrow.I8 (number U4 a)) registers has f e
    (lies_from_fits w64 (pos (cast_unsigned w32 a)) (record { sfits = small }))
narrowed_lines narrow.I8 I8 x label a registers has kx f e =
    kept_always x label a (int_wrap w64 a) (in_range_of_type narrow.I8 a) registers has e (lies_from_fits w64 a f)
    (held_itself w64 a f)
narrowed_lines narrow.I8 U8 x label a registers has kx f e =
    kept_positive x label a (int_wrap w64 (number U8 a)) (in_range_of_type narrow.I8 (number U8 a)) registers has f e
    (not_negative_u8 a f) (λ true_is. held_unsigned_64 a f)
narrowed_lines narrow.U8 I4 x label a registers has kx f e =
    kept_positive x label a (int_wrap w64 a) (in_range_of_type narrow.U8 a) registers has (wide I4 a f) e
    (positive_in w64 a (great a (2 ^ 64 - 1) w32 f (omega arith)) (omega arith))
    (λ true_is. held_itself w64 a (wide I4 a f))
narrowed_lines narrow.U8 U4 x label a registers has kx f e =
    let bound : cast_unsigned w32 a < 2 ^ 32 = unsigned_32 a f in
    let small : cast_unsigned w32 a < 2 ^ 64 = omega (arith, bound) in
    widened label x a (in_range_of_type narrow.U8 (number U4 a)) registers has f e
    (lies_from_below w64 (cast_unsigned w32 a) small)
narrowed_lines narrow.U8 I8 x label a registers has kx f e =
    kept_positive x label a (int_wrap w64 a) (in_range_of_type narrow.U8 a) registers has f e
    (positive_in w64 a (great a (2 ^ 64 - 1) w64 f (omega arith)) (omega arith))
    (λ true_is. held_itself w64 a f)
narrowed_lines narrow.U8 U8 x label a registers has kx f e =
    kept_always x label a (int_wrap w64 (number U8 a)) (in_range_of_type narrow.U8 (number U8 a)) registers has e
    (lies_from_below w64 (cast_unsigned w64 a) (unsigned_64 a f)) (held_unsigned_64 a f)
