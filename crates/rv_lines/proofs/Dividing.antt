-- Divisions: by 0, of the least number by -1, and all others.
use Rattle.std.proofs.Common.{◌≡◌, ◌∙◌, ℕ, ◌-◌, ◌*◌, ◌/◌, ◌%◌, ◌^◌, ◌<◌, ◌≤◌, ℤ, pos, negsuc, ◌+ℤ◌, Bool, true, false}
use Rattle.std.proofs.Common.{not, cond, ◌==◌, ◌&&◌, int_div, int_eq, int_rem, FitsSigned, refl, ap, sym, subst, arith}
use Rattle.std.proofs.Common.{bit_or, bit_xor, List, [], ◌∷◌, ◌++◌, slice_index, Option, Some, None}
use Rattle.std.proofs.lemmas.Bool.{false≢true}
use Rattle.std.proofs.lemmas.Bool.Decides.{nat_tests, Decides-and, Decides-eqb}
use Rattle.std.proofs.lemmas.Nat.{or_lt, xor_lt}
use native.Mathlib.Nat.{div-le_self, mod-le}
use Rattle.std.specs.Int.{Width, cast_unsigned, int_wrap, w32, w64}
use Rattle.num_core.specs.Bits.{low_bits}
use Rattle.num_core.specs.Integers.{IsOfKind, least}
use Rattle.num_core.specs.declared.kind.Kind.{Kind}
use Rattle.num_core.specs.declared.kind.Kind.TheVariants.{I4, U4, I8, U8}
use Rattle.rv_isa.specs.declared.ins.Ins.{Ins}
use Rattle.rv_step.specs.Machine.{all_ones, low_word, quotient, remainder, signed_value, signed_word_value}
use Rattle.rv_step.specs.Machine.{unsigned_quotient, unsigned_remainder, unsigned_word_quotient}
use Rattle.rv_step.specs.Machine.{unsigned_word_remainder}
use Rattle.rv_step.specs.Machine.{with_register, word_quotient, word_remainder, word_value}
use Rattle.lir_core.specs.Values.{divided, is_least_by_minus_one, word_of}
use Rattle.lir_core.specs.declared.op.DivisionPart.{DivisionPart}
use Rattle.lir_core.specs.declared.op.DivisionPart.TheVariants.{Quotient, Remainder}
use Rattle.rv_lines.specs.Computing.{divides, divides_by, gets_least, refuses_least}
use Rattle.rv_lines.specs.Leading.{AnswersOr, AreRegisters, GivesWord, IsKept, KeepsAll, Refuses, Takes}
use Rattle.rv_lines.specs.declared.line.Condition.TheVariants.{Equal}
use Rattle.rv_lines.specs.declared.line.Line.{Line}
use Rattle.rv_lines.specs.declared.line.Line.TheVariants.{Single, Branch}
use Rattle.rv_lines.proofs.Leading.{EndsOr, answers_or, branches_unless, by_one, by_two, ends_over, gives_first, got}
use Rattle.rv_lines.proofs.Leading.{has_word, kept}
use Rattle.rv_lines.proofs.Leading.{keeps_28, keeps_29, keeps_all, passes_first}
use Rattle.rv_lines.proofs.Tests.{equal, same_test, signed_of_word}
use Rattle.rv_lines.proofs.Values.{bits_of, low_below, low_of_wrapped, signed_low_32, wide}
use Rattle.rv_lines.proofs.Words.{both_zero, eq_turned, low_32, low_32_signed, low_small, none_of_zeros, xor_is_zero}

-- ---- when the divisor is 0

zero_test : (kind : Kind) (b : ℤ) → IsOfKind kind b → (word_of b == 0) ≡ int_eq b (pos 0)
zero_test kind b fits = equal b (pos 0) (wide kind b fits) (record { sfits = omega arith })

zero_low : (b : ℤ) → FitsSigned w32 b → (word_of b % 2 ^ 32 == 0) ≡ (word_of b == 0)
zero_low (pos n) fits =
    let h : n < 2 ^ 31 = fits.sfits in
    let e : n % 2 ^ 64 ≡ n = omega (arith, h) in
    let e' : n % 2 ^ 64 % 2 ^ 32 ≡ n = omega (arith, h) in
    ap (λ i. i == 0) (e' ∙ sym e)
zero_low (negsuc n) fits = let h : n < 2 ^ 31 = fits.sfits in by n h
  where
    by : (n : ℕ) → n < 2 ^ 31 → ((2 ^ 64 - 1 - n % 2 ^ 64) % 2 ^ 32 == 0) ≡ (2 ^ 64 - 1 - n % 2 ^ 64 == 0)
    by n h = grind (arith, nat_tests)

-- ---- when the least number is divided by -1

both_test : (u v : ℕ) → (bit_or u v == 0) ≡ ((u == 0) && (v == 0))
both_test u v =
    same_test (bit_or u v == 0) ((u == 0) && (v == 0)) (Decides-eqb (bit_or u v) 0)
    (Decides-and (u == 0) (v == 0) (Decides-eqb u 0) (Decides-eqb v 0))
    (λ none. both_zero u v none) (λ zeros. none_of_zeros u v zeros.0 zeros.1)

next_is_zero : (q : ℕ) → q < 2 ^ 64 → (low_bits 64 (pos q +ℤ pos 1) == 0) ≡ (q == 2 ^ 64 - 1)
next_is_zero q h = grind (arith, nat_tests)

least_test : (w : Width) (a b : ℤ) → FitsSigned w64 a → FitsSigned w64 b → FitsSigned w64 (least true w)
    → (bit_or (bit_xor (word_of (least true w)) (word_of a)) (low_bits 64 (pos (word_of b) +ℤ pos 1)) == 0)
    ≡ (int_eq a (least true w) && int_eq b (negsuc 0))
least_test w a b f g h =
    let l : ℕ = word_of (least true w) in
    let v : ℕ = low_bits 64 (pos (word_of b) +ℤ pos 1) in
    both_test (bit_xor l (word_of a)) v
    ∙ ap (λ t. t && (v == 0)) (xor_is_zero l (word_of a) ∙ eq_turned l (word_of a) ∙ equal a (least true w) f h)
    ∙ ap (λ t. int_eq a (least true w) && t)
    (next_is_zero (word_of b) (low_below b) ∙ equal b (negsuc 0) g (record { sfits = omega arith }))

-- ---- what the instructions give

if_zero : (t : Bool) (x y : ℕ) → t ≡ false → cond t x y ≡ y
if_zero true x y e = absurd (false≢true (sym e))
if_zero false x y e = refl

signed_quotient_32 : (a b : ℤ) → FitsSigned w32 a → FitsSigned w32 b → int_eq b (pos 0) ≡ false
    → word_quotient (word_of a) (word_of b) ≡ word_of (int_wrap w32 (int_div a b))
signed_quotient_32 a b f g some =
    if_zero (word_value (word_of b) == 0) all_ones
    (low_word (int_div (signed_word_value (word_of a)) (signed_word_value (word_of b))))
    (zero_low b g ∙ zero_test I4 b g ∙ some)
    ∙ ap (λ i. low_word (int_div i (signed_word_value (word_of b)))) (low_32_signed a f)
    ∙ ap (λ i. low_word (int_div a i)) (low_32_signed b g) ∙ ap (low_bits 64) (signed_low_32 (int_div a b))

signed_remainder_32 : (a b : ℤ) → FitsSigned w32 a → FitsSigned w32 b → int_eq b (pos 0) ≡ false
    → word_remainder (word_of a) (word_of b) ≡ word_of (int_wrap w32 (int_rem a b))
signed_remainder_32 a b f g some =
    if_zero (word_value (word_of b) == 0) (low_word (pos (word_of a)))
    (low_word (int_rem (signed_word_value (word_of a)) (signed_word_value (word_of b))))
    (zero_low b g ∙ zero_test I4 b g ∙ some)
    ∙ ap (λ i. low_word (int_rem i (signed_word_value (word_of b)))) (low_32_signed a f)
    ∙ ap (λ i. low_word (int_rem a i)) (low_32_signed b g) ∙ ap (low_bits 64) (signed_low_32 (int_rem a b))

unsigned_quotient_32 : (a b : ℤ) → FitsSigned w32 a → FitsSigned w32 b → int_eq b (pos 0) ≡ false
    → unsigned_word_quotient (word_of a) (word_of b)
    ≡ word_of (int_wrap w32 (pos (cast_unsigned w32 a / cast_unsigned w32 b)))
unsigned_quotient_32 a b f g some =
    if_zero (word_value (word_of b) == 0) all_ones (low_word (pos (word_value (word_of a) / word_value (word_of b))))
    (zero_low b g ∙ zero_test U4 b g ∙ some)
    ∙ ap (λ i. low_word (pos (i / word_value (word_of b)))) (low_32 a f)
    ∙ ap (λ i. low_word (pos (cast_unsigned w32 a / i))) (low_32 b g)
    ∙ ap (low_bits 64) (signed_low_32 (pos (cast_unsigned w32 a / cast_unsigned w32 b)))

unsigned_remainder_32 : (a b : ℤ) → FitsSigned w32 a → FitsSigned w32 b → int_eq b (pos 0) ≡ false
    → unsigned_word_remainder (word_of a) (word_of b)
    ≡ word_of (int_wrap w32 (pos (cast_unsigned w32 a % cast_unsigned w32 b)))
unsigned_remainder_32 a b f g some =
    if_zero (word_value (word_of b) == 0) (low_word (pos (word_of a)))
    (low_word (pos (word_value (word_of a) % word_value (word_of b))))
    (zero_low b g ∙ zero_test U4 b g ∙ some)
    ∙ ap (λ i. low_word (pos (i % word_value (word_of b)))) (low_32 a f)
    ∙ ap (λ i. low_word (pos (cast_unsigned w32 a % i))) (low_32 b g)
    ∙ ap (low_bits 64) (signed_low_32 (pos (cast_unsigned w32 a % cast_unsigned w32 b)))

signed_quotient_64 : (a b : ℤ) → FitsSigned w64 a → FitsSigned w64 b → int_eq b (pos 0) ≡ false
    → quotient (word_of a) (word_of b) ≡ word_of (int_wrap w64 (int_div a b))
signed_quotient_64 a b f g some =
    if_zero (word_of b == 0) all_ones (low_bits 64 (int_div (signed_value (word_of a)) (signed_value (word_of b))))
    (zero_test I8 b g ∙ some)
    ∙ ap (λ i. low_bits 64 (int_div i (signed_value (word_of b)))) (signed_of_word a f)
    ∙ ap (λ i. low_bits 64 (int_div a i)) (signed_of_word b g) ∙ sym (low_of_wrapped (int_div a b))

signed_remainder_64 : (a b : ℤ) → FitsSigned w64 a → FitsSigned w64 b → int_eq b (pos 0) ≡ false
    → remainder (word_of a) (word_of b) ≡ word_of (int_wrap w64 (int_rem a b))
signed_remainder_64 a b f g some =
    if_zero (word_of b == 0) (word_of a) (low_bits 64 (int_rem (signed_value (word_of a)) (signed_value (word_of b))))
    (zero_test I8 b g ∙ some)
    ∙ ap (λ i. low_bits 64 (int_rem i (signed_value (word_of b)))) (signed_of_word a f)
    ∙ ap (λ i. low_bits 64 (int_rem a i)) (signed_of_word b g) ∙ sym (low_of_wrapped (int_rem a b))

unsigned_quotient_64 : (a b : ℤ) → FitsSigned w64 a → FitsSigned w64 b → int_eq b (pos 0) ≡ false
    → unsigned_quotient (word_of a) (word_of b)
    ≡ word_of (int_wrap w64 (pos (cast_unsigned w64 a / cast_unsigned w64 b)))
unsigned_quotient_64 a b f g some =
    let less : word_of a / word_of b ≤ word_of a = div-le_self (word_of a) (word_of b) in
    let below : word_of a < 2 ^ 64 = low_below a in
    if_zero (word_of b == 0) all_ones (word_of a / word_of b) (zero_test U8 b g ∙ some)
    ∙ sym (low_small (word_of a / word_of b) (omega (arith, less, below)))
    ∙ sym (low_of_wrapped (pos (word_of a / word_of b)))
    ∙ ap (λ i. word_of (int_wrap w64 (pos (i / word_of b)))) (bits_of a f)
    ∙ ap (λ i. word_of (int_wrap w64 (pos (cast_unsigned w64 a / i)))) (bits_of b g)

unsigned_remainder_64 : (a b : ℤ) → FitsSigned w64 a → FitsSigned w64 b → int_eq b (pos 0) ≡ false
    → unsigned_remainder (word_of a) (word_of b)
    ≡ word_of (int_wrap w64 (pos (cast_unsigned w64 a % cast_unsigned w64 b)))
unsigned_remainder_64 a b f g some =
    let less : word_of a % word_of b ≤ word_of a = mod-le (word_of a) (word_of b) in
    let below : word_of a < 2 ^ 64 = low_below a in
    if_zero (word_of b == 0) (word_of a) (word_of a % word_of b) (zero_test U8 b g ∙ some)
    ∙ sym (low_small (word_of a % word_of b) (omega (arith, less, below)))
    ∙ sym (low_of_wrapped (pos (word_of a % word_of b)))
    ∙ ap (λ i. word_of (int_wrap w64 (pos (i % word_of b)))) (bits_of a f)
    ∙ ap (λ i. word_of (int_wrap w64 (pos (cast_unsigned w64 a % i)))) (bits_of b g)

gives_part : (part : DivisionPart) (kind : Kind) (r x y : ℕ) (a b : ℤ) (registers : List ℕ) → IsOfKind kind a
    → IsOfKind kind b → slice_index registers x ≡ word_of a → slice_index registers y ≡ word_of b
    → int_eq b (pos 0) ≡ false
    → GivesWord (divides_by part kind r x y) registers r (word_of (divided part kind a b))
gives_part Quotient I4 r x y a b registers f g e e' some =
    by_two (Ins.Divw r x y) r x y word_quotient (λ m s. refl) registers (word_of a) (word_of b)
    (word_of (divided Quotient I4 a b)) e e' (signed_quotient_32 a b f g some)
gives_part Quotient U4 r x y a b registers f g e e' some =
    by_two (Ins.Divuw r x y) r x y unsigned_word_quotient (λ m s. refl) registers (word_of a) (word_of b)
    (word_of (divided Quotient U4 a b)) e e' (unsigned_quotient_32 a b f g some)
gives_part Quotient I8 r x y a b registers f g e e' some =
    by_two (Ins.Div r x y) r x y quotient (λ m s. refl) registers (word_of a) (word_of b)
    (word_of (divided Quotient I8 a b)) e e' (signed_quotient_64 a b f g some)
gives_part Quotient U8 r x y a b registers f g e e' some =
    by_two (Ins.Divu r x y) r x y unsigned_quotient (λ m s. refl) registers (word_of a) (word_of b)
    (word_of (divided Quotient U8 a b)) e e' (unsigned_quotient_64 a b f g some)
gives_part Remainder I4 r x y a b registers f g e e' some =
    by_two (Ins.Remw r x y) r x y word_remainder (λ m s. refl) registers (word_of a) (word_of b)
    (word_of (divided Remainder I4 a b)) e e' (signed_remainder_32 a b f g some)
gives_part Remainder U4 r x y a b registers f g e e' some =
    by_two (Ins.Remuw r x y) r x y unsigned_word_remainder (λ m s. refl) registers (word_of a) (word_of b)
    (word_of (divided Remainder U4 a b)) e e' (unsigned_remainder_32 a b f g some)
gives_part Remainder I8 r x y a b registers f g e e' some =
    by_two (Ins.Rem r x y) r x y remainder (λ m s. refl) registers (word_of a) (word_of b)
    (word_of (divided Remainder I8 a b)) e e' (signed_remainder_64 a b f g some)
gives_part Remainder U8 r x y a b registers f g e e' some =
    by_two (Ins.Remu r x y) r x y unsigned_remainder (λ m s. refl) registers (word_of a) (word_of b)
    (word_of (divided Remainder U8 a b)) e e' (unsigned_remainder_64 a b f g some)

-- ---- the lines

-- the division is the last line
divides_last : (part : DivisionPart) (kind : Kind) (r x y label : ℕ) (a b : ℤ) (origin registers : List ℕ) → 0 < r
    → r < 32
    → IsOfKind kind a → IsOfKind kind b → AreRegisters registers → KeepsAll origin registers
    → slice_index registers x ≡ word_of a → slice_index registers y ≡ word_of b → int_eq b (pos 0) ≡ false
    → EndsOr (Single (divides_by part kind r x y) ∷ []) origin registers r label
    (Some (word_of (divided part kind a b)))
divides_last part kind r x y label a b origin registers h h' f g has same e e' some =
    let value : ℕ = word_of (divided part kind a b) in
    let fits : value < 2 ^ 64 = low_below (divided part kind a b) in
    let new : List ℕ = with_register registers r value in
    gives_first (divides_by part kind r x y) [] origin registers r value r label (Some value)
    (gives_part part kind r x y a b registers f g e e' some) fits
    (ends_over origin new r label value (has_word registers r value fits has) (got registers r value has h h')
    (λ q ne k. kept registers r q value ne ∙ same q k))

-- What is before the branch to the label of an overflow, for a least number that x28 has: it gets 0 there alone.
least_first : (w : Width) (rest : List Line) (x y rd overflow : ℕ) (a b : ℤ) (o : Option ℕ) (origin registers : List ℕ)
    → AreRegisters registers → KeepsAll origin registers → IsKept x → IsKept y → FitsSigned w64 a → FitsSigned w64 b
    → FitsSigned w64 (least true w) → slice_index registers 28 ≡ word_of (least true w)
    → slice_index registers x ≡ word_of a → slice_index registers y ≡ word_of b
    → ((new : List ℕ) → AreRegisters new → KeepsAll origin new
    → (slice_index new 28 == 0) ≡ (int_eq a (least true w) && int_eq b (negsuc 0))
    → EndsOr (Branch Equal 28 0 overflow ∷ rest) origin new rd overflow o)
    → EndsOr (Single (Ins.Xor 28 28 x) ∷ Single (Ins.Addi 29 y (pos 1)) ∷ Single (Ins.Or 28 28 29)
    ∷ Branch Equal 28 0 overflow ∷ rest) origin registers rd overflow o
least_first w rest x y rd overflow a b o origin registers has same kx ky f g h at_28 e e' then =
    let l : ℕ = word_of (least true w) in
    let u : ℕ = bit_xor l (word_of a) in
    let v : ℕ = low_bits 64 (pos (word_of b) +ℤ pos 1) in
    let t : ℕ = bit_or u v in
    let u_fits : u < 2 ^ 64 = xor_lt 64 l (word_of a) (low_below (least true w)) (low_below a) in
    let v_fits : v < 2 ^ 64 = low_below (pos (word_of b) +ℤ pos 1) in
    let t_fits : t < 2 ^ 64 = or_lt 64 u v u_fits v_fits in
    let r1 : List ℕ = with_register registers 28 u in
    let r2 : List ℕ = with_register r1 29 v in
    let r3 : List ℕ = with_register r2 28 t in
    let has1 : AreRegisters r1 = has_word registers 28 u u_fits has in
    let has2 : AreRegisters r2 = has_word r1 29 v v_fits has1 in
    let has3 : AreRegisters r3 = has_word r2 28 t t_fits has2 in
    let last : List Line = Branch Equal 28 0 overflow ∷ rest in
    gives_first (Ins.Xor 28 28 x) (Single (Ins.Addi 29 y (pos 1)) ∷ Single (Ins.Or 28 28 29) ∷ last) origin registers 28
    u
    rd overflow o
    (by_two (Ins.Xor 28 28 x) 28 28 x bit_xor (λ m s. refl) registers l (word_of a) u at_28 e refl) u_fits
    (gives_first (Ins.Addi 29 y (pos 1)) (Single (Ins.Or 28 28 29) ∷ last) origin r1 29 v rd overflow o
    (by_one (Ins.Addi 29 y (pos 1)) 29 y (λ i. low_bits 64 (pos i +ℤ pos 1)) (λ m s. refl) r1 (word_of b) v
    (kept registers 28 y u ky.not_first ∙ e') refl) v_fits
    (gives_first (Ins.Or 28 28 29) last origin r2 28 t rd overflow o
    (by_two (Ins.Or 28 28 29) 28 28 29 bit_or (λ m s. refl) r2 u v t
    (kept r1 29 28 v (omega arith) ∙ got registers 28 u has (omega arith) (omega arith))
    (got r1 29 v has1 (omega arith) (omega arith)) refl) t_fits
    (then r3 has3 (keeps_28 origin r2 t (keeps_29 origin r1 v (keeps_28 origin registers u same)))
    (ap (λ i. i == 0) (got r2 28 t has2 (omega arith) (omega arith)) ∙ least_test w a b f g h))))

-- the least number itself, for int32 and for int64
gets_least_32 : (rest : List Line) (rd label : ℕ) (o : Option ℕ) (origin registers : List ℕ) → AreRegisters registers
    → KeepsAll origin registers
    → ((new : List ℕ) → AreRegisters new → KeepsAll origin new
    → ((r : ℕ) → IsKept r → slice_index new r ≡ slice_index registers r)
    → slice_index new 28 ≡ word_of (least true w32) → EndsOr rest origin new rd label o)
    → EndsOr (gets_least I4 ++ rest) origin registers rd label o
gets_least_32 rest rd label o origin registers has same then =
    let l : ℕ = word_of (least true w32) in
    let fits : l < 2 ^ 64 = low_below (least true w32) in
    let new : List ℕ = with_register registers 28 l in
    gives_first (Ins.Lui 28 (2 ^ 19)) rest origin registers 28 l rd label o (λ m s e. refl) fits
    (then new (has_word registers 28 l fits has) (keeps_28 origin registers l same)
    (λ r k. kept registers 28 r l k.not_first) (got registers 28 l has (omega arith) (omega arith)))

gets_least_64 : (rest : List Line) (rd label : ℕ) (o : Option ℕ) (origin registers : List ℕ) → AreRegisters registers
    → KeepsAll origin registers
    → ((new : List ℕ) → AreRegisters new → KeepsAll origin new
    → ((r : ℕ) → IsKept r → slice_index new r ≡ slice_index registers r)
    → slice_index new 28 ≡ word_of (least true w64) → EndsOr rest origin new rd label o)
    → EndsOr (gets_least I8 ++ rest) origin registers rd label o
gets_least_64 rest rd label o origin registers has same then =
    let ones : ℕ = 2 ^ 64 - 1 in
    let l : ℕ = word_of (least true w64) in
    let ones_fit : ones < 2 ^ 64 = omega arith in
    let fits : l < 2 ^ 64 = low_below (least true w64) in
    let r1 : List ℕ = with_register registers 28 ones in
    let new : List ℕ = with_register r1 28 l in
    let has1 : AreRegisters r1 = has_word registers 28 ones ones_fit has in
    gives_first (Ins.Addi 28 0 (negsuc 0)) (Single (Ins.Slli 28 28 63) ∷ rest) origin registers 28 ones rd label o
    (by_one (Ins.Addi 28 0 (negsuc 0)) 28 0 (λ i. low_bits 64 (pos i +ℤ negsuc 0)) (λ m s. refl) registers 0 ones has.x0
    refl) ones_fit
    (gives_first (Ins.Slli 28 28 63) rest origin r1 28 l rd label o
    (by_one (Ins.Slli 28 28 63) 28 28 (λ i. low_bits 64 (pos (i * 2 ^ 63))) (λ m s. refl) r1 ones l
    (got registers 28 ones has (omega arith) (omega arith)) refl) fits
    (then new (has_word r1 28 l fits has1) (keeps_28 origin r1 l (keeps_28 origin registers ones same))
    (λ r k. kept r1 28 r l k.not_first ∙ kept registers 28 r ones k.not_first)
    (got r1 28 l has1 (omega arith) (omega arith))))

twice_not : (t : Bool) → t ≡ not (not t)
twice_not true = refl
twice_not false = refl

-- the branch, and the division behind it
branch_last : (part : DivisionPart) (kind : Kind) (r x y overflow : ℕ) (a b : ℤ) (t : Bool) (origin registers : List ℕ)
    → 0 < r → r < 32 → IsKept x → IsKept y → IsOfKind kind a → IsOfKind kind b → AreRegisters registers
    → KeepsAll origin registers → slice_index origin x ≡ word_of a → slice_index origin y ≡ word_of b
    → int_eq b (pos 0) ≡ false → (slice_index registers 28 == 0) ≡ t
    → EndsOr (Branch Equal 28 0 overflow ∷ Single (divides_by part kind r x y) ∷ []) origin registers r overflow
    (cond (not t) (Some (word_of (divided part kind a b))) None)
branch_last part kind r x y overflow a b t origin registers h h' kx ky f g has same e e' some test =
    branches_unless Equal 28 0 overflow (Single (divides_by part kind r x y) ∷ []) origin registers r
    (word_of (divided part kind a b)) (not t)
    (ap (λ i. slice_index registers 28 == i) has.x0 ∙ test ∙ twice_not t) has same
    (λ false_is. divides_last part kind r x y overflow a b origin registers h h' f g has same (same x kx ∙ e)
    (same y ky ∙ e')
    some)

-- what comes behind the test for 0
rest_of : (part : DivisionPart) (kind : Kind) (r x y overflow : ℕ) (a b : ℤ) (registers : List ℕ) → 0 < r → r < 32
    → IsKept x → IsKept y → IsOfKind kind a → IsOfKind kind b → AreRegisters registers
    → slice_index registers x ≡ word_of a → slice_index registers y ≡ word_of b → int_eq b (pos 0) ≡ false
    → EndsOr (refuses_least kind x y overflow ++ Single (divides_by part kind r x y) ∷ []) registers registers r
    overflow
    (cond (not (is_least_by_minus_one kind a b)) (Some (word_of (divided part kind a b))) None)
rest_of part I4 r x y overflow a b registers h h' kx ky f g has e e' some =
    let last : List Line = Single (divides_by part I4 r x y) ∷ [] in
    let o : Option ℕ = cond (not (is_least_by_minus_one I4 a b)) (Some (word_of (divided part I4 a b))) None in
    gets_least_32 (Single (Ins.Xor 28 28 x) ∷ Single (Ins.Addi 29 y (pos 1)) ∷ Single (Ins.Or 28 28 29)
    ∷ Branch Equal 28 0 overflow ∷ last) r overflow o registers registers has (keeps_all registers)
    (λ new has' same keeps at_28. least_first w32 last x y r overflow a b o registers new has' same kx ky (wide I4 a f)
    (wide I4 b g) (record { sfits = omega arith }) at_28 (keeps x kx ∙ e) (keeps y ky ∙ e')
    (λ new' has'' same' test. branch_last part I4 r x y overflow a b (is_least_by_minus_one I4 a b) registers new' h h'
    kx
    ky f g has'' same' e e' some test))
rest_of part U4 r x y overflow a b registers h h' kx ky f g has e e' some =
    divides_last part U4 r x y overflow a b registers registers h h' f g has (keeps_all registers) e e' some
rest_of part I8 r x y overflow a b registers h h' kx ky f g has e e' some =
    let last : List Line = Single (divides_by part I8 r x y) ∷ [] in
    let o : Option ℕ = cond (not (is_least_by_minus_one I8 a b)) (Some (word_of (divided part I8 a b))) None in
    gets_least_64 (Single (Ins.Xor 28 28 x) ∷ Single (Ins.Addi 29 y (pos 1)) ∷ Single (Ins.Or 28 28 29)
    ∷ Branch Equal 28 0 overflow ∷ last) r overflow o registers registers has (keeps_all registers)
    (λ new has' same keeps at_28. least_first w64 last x y r overflow a b o registers new has' same kx ky f g
    (record { sfits = omega arith }) at_28 (keeps x kx ∙ e) (keeps y ky ∙ e')
    (λ new' has'' same' test. branch_last part I8 r x y overflow a b (is_least_by_minus_one I8 a b) registers new' h h'
    kx
    ky f g has'' same' e e' some test))
rest_of part U8 r x y overflow a b registers h h' kx ky f g has e e' some =
    divides_last part U8 r x y overflow a b registers registers h h' f g has (keeps_all registers) e e' some

turned : (t : Bool) (o : Option ℕ) → cond (not t) o None ≡ cond t None o
turned true o = refl
turned false o = refl

pub divided_lines : (part : DivisionPart) (kind : Kind) (r x y if_zero overflow : ℕ) (a b : ℤ) (registers : List ℕ)
    → AreRegisters registers → 0 < r → r < 32 → IsKept x → IsKept y → IsOfKind kind a → IsOfKind kind b
    → slice_index registers x ≡ word_of a → slice_index registers y ≡ word_of b → int_eq b (pos 0) ≡ false
    → AnswersOr (divides part kind r x y if_zero overflow) registers r overflow
    (cond (is_least_by_minus_one kind a b) None (Some (word_of (divided part kind a b))))
divided_lines part kind r x y if_zero overflow a b registers has h h' kx ky f g e e' some =
    let t : Bool = is_least_by_minus_one kind a b in
    let value : Option ℕ = Some (word_of (divided part kind a b)) in
    let lines : List Line = refuses_least kind x y overflow ++ Single (divides_by part kind r x y) ∷ [] in
    answers_or (Branch Equal y 0 if_zero ∷ lines) registers r overflow (cond t None value)
    (passes_first Equal y 0 if_zero lines registers registers r overflow (cond t None value)
    (ap (λ i. i == slice_index registers 0) e' ∙ ap (λ i. word_of b == i) has.x0 ∙ zero_test kind b g ∙ some)
    (subst (EndsOr lines registers registers r overflow) (turned t value)
    (rest_of part kind r x y overflow a b registers h h' kx ky f g has e e' some)))

pub zero_lines : (part : DivisionPart) (kind : Kind) (r x y if_zero overflow : ℕ) (b : ℤ) (registers : List ℕ)
    → AreRegisters registers → IsOfKind kind b → slice_index registers y ≡ word_of b → int_eq b (pos 0) ≡ true
    → Refuses (divides part kind r x y if_zero overflow) registers if_zero
zero_lines part kind r x y if_zero overflow b registers has g e' none =
    let lines : List Line = refuses_least kind x y overflow ++ Single (divides_by part kind r x y) ∷ [] in
    record {
      new = registers;
      leads = Takes Equal y 0 if_zero lines registers
          (ap (λ i. i == slice_index registers 0) e' ∙ ap (λ i. word_of b == i) has.x0 ∙ zero_test kind b g ∙ none);
      registers_then = has;
      others = keeps_all registers;
    }
