-- What the instructions that compute give of values in registers.
use Rattle.std.proofs.Common.{◌≡◌, ◌∙◌, refl, ℕ, ◌+◌, ◌-◌, ◌*◌, ◌/◌, ◌%◌, ◌^◌, ◌<◌, ℤ, pos, negsuc, ◌+ℤ◌, ◌-ℤ◌, ◌*ℤ◌}
use Rattle.std.proofs.Common.{ap, sym}
use Rattle.std.proofs.Common.{arith, subst, unsigned_abs, FitsSigned, bit_and, bit_or, bit_xor, ◌≤◌}
use Rattle.std.proofs.lemmas.Bool.Decides.{nat_tests}
use Rattle.std.proofs.lemmas.Int.{ints}
use Rattle.std.specs.Int.{cast_signed, cast_unsigned, w32, w64, int_wrap, int_rem_euclid, int_bit_and, int_bit_or}
use Rattle.std.specs.Int.{int_bit_xor}
use Rattle.std.proofs.lemmas.Nat.{and_le_l, or_lt, xor_lt}
use Rattle.num_core.specs.Bits.{low_bits}
use Rattle.num_core.specs.Integers.{IsOfKind, number}
use Rattle.num_core.specs.Run.{Running, Streams}
use Rattle.num_core.specs.declared.kind.Kind.{Kind}
use Rattle.num_core.specs.declared.kind.Kind.TheVariants.{I4, U4, I8, U8}
use Rattle.num_core.proofs.WrapLaws.{int_wrap-pos, int_wrap-is, int_wrap-same, int_wrap-sum, int_wrap-difference}
use Rattle.num_core.proofs.WrapLaws.{fits_wider, int_wrap-product}
use Rattle.rv_step.specs.Machine.{MachineState, effect, low_word, register}
use Rattle.rv_code.specs.Code.{given}
use Rattle.lir_core.specs.Values.{combined, word_of}
use Rattle.lir_core.specs.declared.op.BinaryOperation.{BinaryOperation}
use Rattle.lir_core.specs.declared.op.BinaryOperation.TheVariants.{Add, Subtract, Multiply, And, Or, ExclusiveOr}
use Rattle.rv_lines.specs.Computing.{combines}

-- ---- the bits of a number, and what is left of it in so many

pub signed_low_32 : (z : ℤ) → cast_signed w32 (low_bits 32 z) ≡ int_wrap w32 z
signed_low_32 (pos n) = sym (int_wrap-pos w32 n)
signed_low_32 (negsuc n) =
    let same : low_bits 32 (negsuc n) ≡ unsigned_abs (int_rem_euclid (negsuc n) (pos (2 ^ 32))) = omega (arith, ints) in
    ap (cast_signed w32) same ∙ sym (int_wrap-is w32 (negsuc n))

pub signed_low_64 : (z : ℤ) → cast_signed w64 (low_bits 64 z) ≡ int_wrap w64 z
signed_low_64 (pos n) = sym (int_wrap-pos w64 n)
signed_low_64 (negsuc n) =
    let same : low_bits 64 (negsuc n) ≡ unsigned_abs (int_rem_euclid (negsuc n) (pos (2 ^ 64))) = omega (arith, ints) in
    ap (cast_signed w64) same ∙ sym (int_wrap-is w64 (negsuc n))

pub low_below : (z : ℤ) → low_bits 64 z < 2 ^ 64
low_below (pos n) = omega arith
low_below (negsuc n) = omega arith

pub low_of_signed : (n : ℕ) → n < 2 ^ 64 → low_bits 64 (cast_signed w64 n) ≡ n
low_of_signed n h = grind (arith, nat_tests)

pub low_of_wrapped : (z : ℤ) → low_bits 64 (int_wrap w64 z) ≡ low_bits 64 z
low_of_wrapped z = ap (low_bits 64) (sym (signed_low_64 z)) ∙ low_of_signed (low_bits 64 z) (low_below z)

-- a register has what is left of its number
pub in_register_32 : (z : ℤ) → int_wrap w32 (pos (low_bits 64 z)) ≡ int_wrap w32 z
in_register_32 (pos n) =
    let far : pos (n % 2 ^ 64) +ℤ pos ((n / 2 ^ 64 * 2 ^ 32) * 2 ^ 32) ≡ pos n +ℤ pos (0 * 2 ^ 32) =
    omega (arith, ints) in
    int_wrap-same w32 (pos (n % 2 ^ 64)) (pos n) (n / 2 ^ 64 * 2 ^ 32) 0 far
in_register_32 (negsuc n) =
    let far : pos (2 ^ 64 - 1 - n % 2 ^ 64) +ℤ pos (0 * 2 ^ 32) ≡ negsuc n +ℤ pos (((n / 2 ^ 64 + 1) * 2 ^ 32) * 2 ^ 32)
    = omega (arith, ints) in
    int_wrap-same w32 (pos (2 ^ 64 - 1 - n % 2 ^ 64)) (negsuc n) 0 ((n / 2 ^ 64 + 1) * 2 ^ 32) far

pub in_register_64 : (z : ℤ) → int_wrap w64 (pos (low_bits 64 z)) ≡ int_wrap w64 z
in_register_64 (pos n) =
    let far : pos (n % 2 ^ 64) +ℤ pos (n / 2 ^ 64 * 2 ^ 64) ≡ pos n +ℤ pos (0 * 2 ^ 64) = omega (arith, ints) in
    int_wrap-same w64 (pos (n % 2 ^ 64)) (pos n) (n / 2 ^ 64) 0 far
in_register_64 (negsuc n) =
    let far : pos (2 ^ 64 - 1 - n % 2 ^ 64) +ℤ pos (0 * 2 ^ 64) ≡ negsuc n +ℤ pos ((n / 2 ^ 64 + 1) * 2 ^ 64) =
    omega (arith, ints) in
    int_wrap-same w64 (pos (2 ^ 64 - 1 - n % 2 ^ 64)) (negsuc n) 0 (n / 2 ^ 64 + 1) far

-- two numbers of which the same is left give the same word
pub left_32 : (z z' : ℤ) → int_wrap w32 z ≡ int_wrap w32 z' → low_word z ≡ low_bits 64 (int_wrap w32 z')
left_32 z z' e = ap (low_bits 64) (signed_low_32 z ∙ e)

pub left_64 : (z z' : ℤ) → int_wrap w64 z ≡ int_wrap w64 z' → low_bits 64 z ≡ low_bits 64 (int_wrap w64 z')
left_64 z z' e = sym (low_of_wrapped z) ∙ ap (low_bits 64) e

-- the number that a kind reads in a value is congruent to the value
pub number_32 : (a : ℤ) → FitsSigned w32 a → int_wrap w32 (number U4 a) ≡ int_wrap w32 a
number_32 (pos n) fits = refl
number_32 (negsuc n) fits =
    let small : n < 2 ^ 31 = fits.sfits in
    let far : number U4 (negsuc n) +ℤ pos (0 * 2 ^ 32) ≡ negsuc n +ℤ pos (1 * 2 ^ 32) = omega (arith, ints, small) in
    int_wrap-same w32 (number U4 (negsuc n)) (negsuc n) 0 1 far

pub number_64 : (a : ℤ) → FitsSigned w64 a → int_wrap w64 (number U8 a) ≡ int_wrap w64 a
number_64 (pos n) fits = refl
number_64 (negsuc n) fits =
    let small : n < 2 ^ 63 = fits.sfits in
    let far : number U8 (negsuc n) +ℤ pos (0 * 2 ^ 64) ≡ negsuc n +ℤ pos (1 * 2 ^ 64) = omega (arith, ints, small) in
    int_wrap-same w64 (number U8 (negsuc n)) (negsuc n) 0 1 far

-- sums, differences and products of registers are those of the numbers, whichever way a kind reads them
pub sum_32 : (p q : ℕ) (a b z w : ℤ) → p ≡ low_bits 64 a → q ≡ low_bits 64 b
    → int_wrap w32 z ≡ int_wrap w32 a → int_wrap w32 w ≡ int_wrap w32 b
    → low_word (pos p +ℤ pos q) ≡ low_bits 64 (int_wrap w32 (z +ℤ w))
sum_32 p q a b z w e f g h =
    ap (λ n. low_word (pos n +ℤ pos q)) e ∙ ap (λ n. low_word (pos (low_bits 64 a) +ℤ pos n)) f
    ∙ left_32 (pos (low_bits 64 a) +ℤ pos (low_bits 64 b)) (z +ℤ w)
    (sym (int_wrap-sum w32 (pos (low_bits 64 a)) (pos (low_bits 64 b)))
    ∙ ap (λ u. int_wrap w32 (u +ℤ int_wrap w32 (pos (low_bits 64 b)))) (in_register_32 a ∙ sym g)
    ∙ ap (λ u. int_wrap w32 (int_wrap w32 z +ℤ u)) (in_register_32 b ∙ sym h) ∙ int_wrap-sum w32 z w)

pub difference_32 : (p q : ℕ) (a b z w : ℤ) → p ≡ low_bits 64 a → q ≡ low_bits 64 b
    → int_wrap w32 z ≡ int_wrap w32 a → int_wrap w32 w ≡ int_wrap w32 b
    → low_word (pos p -ℤ pos q) ≡ low_bits 64 (int_wrap w32 (z -ℤ w))
difference_32 p q a b z w e f g h =
    ap (λ n. low_word (pos n -ℤ pos q)) e ∙ ap (λ n. low_word (pos (low_bits 64 a) -ℤ pos n)) f
    ∙ left_32 (pos (low_bits 64 a) -ℤ pos (low_bits 64 b)) (z -ℤ w)
    (sym (int_wrap-difference w32 (pos (low_bits 64 a)) (pos (low_bits 64 b)))
    ∙ ap (λ u. int_wrap w32 (u -ℤ int_wrap w32 (pos (low_bits 64 b)))) (in_register_32 a ∙ sym g)
    ∙ ap (λ u. int_wrap w32 (int_wrap w32 z -ℤ u)) (in_register_32 b ∙ sym h) ∙ int_wrap-difference w32 z w)

pub product_32 : (p q : ℕ) (a b z w : ℤ) → p ≡ low_bits 64 a → q ≡ low_bits 64 b
    → int_wrap w32 z ≡ int_wrap w32 a → int_wrap w32 w ≡ int_wrap w32 b
    → low_word (pos p *ℤ pos q) ≡ low_bits 64 (int_wrap w32 (z *ℤ w))
product_32 p q a b z w e f g h =
    ap (λ n. low_word (pos n *ℤ pos q)) e ∙ ap (λ n. low_word (pos (low_bits 64 a) *ℤ pos n)) f
    ∙ left_32 (pos (low_bits 64 a) *ℤ pos (low_bits 64 b)) (z *ℤ w)
    (sym (int_wrap-product w32 (pos (low_bits 64 a)) (pos (low_bits 64 b)))
    ∙ ap (λ u. int_wrap w32 (u *ℤ int_wrap w32 (pos (low_bits 64 b)))) (in_register_32 a ∙ sym g)
    ∙ ap (λ u. int_wrap w32 (int_wrap w32 z *ℤ u)) (in_register_32 b ∙ sym h) ∙ int_wrap-product w32 z w)

pub sum_64 : (p q : ℕ) (a b z w : ℤ) → p ≡ low_bits 64 a → q ≡ low_bits 64 b
    → int_wrap w64 z ≡ int_wrap w64 a → int_wrap w64 w ≡ int_wrap w64 b
    → low_bits 64 (pos p +ℤ pos q) ≡ low_bits 64 (int_wrap w64 (z +ℤ w))
sum_64 p q a b z w e f g h =
    ap (λ n. low_bits 64 (pos n +ℤ pos q)) e ∙ ap (λ n. low_bits 64 (pos (low_bits 64 a) +ℤ pos n)) f
    ∙ left_64 (pos (low_bits 64 a) +ℤ pos (low_bits 64 b)) (z +ℤ w)
    (sym (int_wrap-sum w64 (pos (low_bits 64 a)) (pos (low_bits 64 b)))
    ∙ ap (λ u. int_wrap w64 (u +ℤ int_wrap w64 (pos (low_bits 64 b)))) (in_register_64 a ∙ sym g)
    ∙ ap (λ u. int_wrap w64 (int_wrap w64 z +ℤ u)) (in_register_64 b ∙ sym h) ∙ int_wrap-sum w64 z w)

pub difference_64 : (p q : ℕ) (a b z w : ℤ) → p ≡ low_bits 64 a → q ≡ low_bits 64 b
    → int_wrap w64 z ≡ int_wrap w64 a → int_wrap w64 w ≡ int_wrap w64 b
    → low_bits 64 (pos p -ℤ pos q) ≡ low_bits 64 (int_wrap w64 (z -ℤ w))
difference_64 p q a b z w e f g h =
    ap (λ n. low_bits 64 (pos n -ℤ pos q)) e ∙ ap (λ n. low_bits 64 (pos (low_bits 64 a) -ℤ pos n)) f
    ∙ left_64 (pos (low_bits 64 a) -ℤ pos (low_bits 64 b)) (z -ℤ w)
    (sym (int_wrap-difference w64 (pos (low_bits 64 a)) (pos (low_bits 64 b)))
    ∙ ap (λ u. int_wrap w64 (u -ℤ int_wrap w64 (pos (low_bits 64 b)))) (in_register_64 a ∙ sym g)
    ∙ ap (λ u. int_wrap w64 (int_wrap w64 z -ℤ u)) (in_register_64 b ∙ sym h) ∙ int_wrap-difference w64 z w)

pub product_64 : (p q : ℕ) (a b z w : ℤ) → p ≡ low_bits 64 a → q ≡ low_bits 64 b
    → int_wrap w64 z ≡ int_wrap w64 a → int_wrap w64 w ≡ int_wrap w64 b
    → low_bits 64 (pos p *ℤ pos q) ≡ low_bits 64 (int_wrap w64 (z *ℤ w))
product_64 p q a b z w e f g h =
    ap (λ n. low_bits 64 (pos n *ℤ pos q)) e ∙ ap (λ n. low_bits 64 (pos (low_bits 64 a) *ℤ pos n)) f
    ∙ left_64 (pos (low_bits 64 a) *ℤ pos (low_bits 64 b)) (z *ℤ w)
    (sym (int_wrap-product w64 (pos (low_bits 64 a)) (pos (low_bits 64 b)))
    ∙ ap (λ u. int_wrap w64 (u *ℤ int_wrap w64 (pos (low_bits 64 b)))) (in_register_64 a ∙ sym g)
    ∙ ap (λ u. int_wrap w64 (int_wrap w64 z *ℤ u)) (in_register_64 b ∙ sym h) ∙ int_wrap-product w64 z w)

-- bits
pub bits_of : (a : ℤ) → FitsSigned w64 a → low_bits 64 a ≡ cast_unsigned w64 a
bits_of (pos n) fits = let small : n < 2 ^ 63 = fits.sfits in omega (arith, small)
bits_of (negsuc n) fits = let small : n < 2 ^ 63 = fits.sfits in omega (arith, small, ints)

bit_and_value : (p q : ℕ) (a b : ℤ) → p ≡ low_bits 64 a → q ≡ low_bits 64 b → FitsSigned w64 a → FitsSigned w64 b
    → bit_and p q ≡ low_bits 64 (int_bit_and w64 a b)
bit_and_value p q a b e f g h =
    let u : p ≡ cast_unsigned w64 a = e ∙ bits_of a g in
    let v : q ≡ cast_unsigned w64 b = f ∙ bits_of b h in
    let small : p < 2 ^ 64 = subst (λ n. n < 2 ^ 64) (sym e) (low_below a) in
    let less : bit_and p q ≤ p = and_le_l p q in
    sym (low_of_signed (bit_and p q) (omega (arith, less, small)))
    ∙ ap (λ n. low_bits 64 (cast_signed w64 (bit_and n q))) u
    ∙ ap (λ n. low_bits 64 (cast_signed w64 (bit_and (cast_unsigned w64 a) n))) v

bit_or_value : (p q : ℕ) (a b : ℤ) → p ≡ low_bits 64 a → q ≡ low_bits 64 b → FitsSigned w64 a → FitsSigned w64 b
    → bit_or p q ≡ low_bits 64 (int_bit_or w64 a b)
bit_or_value p q a b e f g h =
    let u : p ≡ cast_unsigned w64 a = e ∙ bits_of a g in
    let v : q ≡ cast_unsigned w64 b = f ∙ bits_of b h in
    let small : p < 2 ^ 64 = subst (λ n. n < 2 ^ 64) (sym e) (low_below a) in
    let small' : q < 2 ^ 64 = subst (λ n. n < 2 ^ 64) (sym f) (low_below b) in
    sym (low_of_signed (bit_or p q) (or_lt 64 p q small small'))
    ∙ ap (λ n. low_bits 64 (cast_signed w64 (bit_or n q))) u
    ∙ ap (λ n. low_bits 64 (cast_signed w64 (bit_or (cast_unsigned w64 a) n))) v

bit_xor_value : (p q : ℕ) (a b : ℤ) → p ≡ low_bits 64 a → q ≡ low_bits 64 b → FitsSigned w64 a → FitsSigned w64 b
    → bit_xor p q ≡ low_bits 64 (int_bit_xor w64 a b)
bit_xor_value p q a b e f g h =
    let u : p ≡ cast_unsigned w64 a = e ∙ bits_of a g in
    let v : q ≡ cast_unsigned w64 b = f ∙ bits_of b h in
    let small : p < 2 ^ 64 = subst (λ n. n < 2 ^ 64) (sym e) (low_below a) in
    let small' : q < 2 ^ 64 = subst (λ n. n < 2 ^ 64) (sym f) (low_below b) in
    sym (low_of_signed (bit_xor p q) (xor_lt 64 p q small small'))
    ∙ ap (λ n. low_bits 64 (cast_signed w64 (bit_xor n q))) u
    ∙ ap (λ n. low_bits 64 (cast_signed w64 (bit_xor (cast_unsigned w64 a) n))) v

pub wide : (kind : Kind) (a : ℤ) → IsOfKind kind a → FitsSigned w64 a
wide I4 a fits = fits_wider w32 w64 a (omega arith) fits
wide U4 a fits = fits_wider w32 w64 a (omega arith) fits
wide I8 a fits = fits
wide U8 a fits = fits

-- ---- the instructions

pub wrapped_operation : (operation : BinaryOperation) (kind : Kind) (m : MachineState) (streams : Streams) (r x y : ℕ)
    (a b : ℤ) → IsOfKind kind a → IsOfKind kind b → register m x ≡ word_of a → register m y ≡ word_of b
    → effect (combines operation kind r x y) m streams
    ≡ Running (given r (word_of (combined operation kind a b)) m) streams
wrapped_operation Add I4 m s r x y a b fa fb e f =
    ap (λ v. Running (given r v m) s)
    (sum_32 (register m x) (register m y) a b (number I4 a) (number I4 b) e f (refl) (refl))
wrapped_operation Add U4 m s r x y a b fa fb e f =
    ap (λ v. Running (given r v m) s)
    (sum_32 (register m x) (register m y) a b (number U4 a) (number U4 b) e f (number_32 a fa) (number_32 b fb))
wrapped_operation Add I8 m s r x y a b fa fb e f =
    ap (λ v. Running (given r v m) s)
    (sum_64 (register m x) (register m y) a b (number I8 a) (number I8 b) e f (refl) (refl))
wrapped_operation Add U8 m s r x y a b fa fb e f =
    ap (λ v. Running (given r v m) s)
    (sum_64 (register m x) (register m y) a b (number U8 a) (number U8 b) e f (number_64 a fa) (number_64 b fb))
wrapped_operation Subtract I4 m s r x y a b fa fb e f =
    ap (λ v. Running (given r v m) s)
    (difference_32 (register m x) (register m y) a b (number I4 a) (number I4 b) e f (refl) (refl))
wrapped_operation Subtract U4 m s r x y a b fa fb e f =
    ap (λ v. Running (given r v m) s)
    (difference_32 (register m x) (register m y) a b (number U4 a) (number U4 b) e f (number_32 a fa) (number_32 b fb))
wrapped_operation Subtract I8 m s r x y a b fa fb e f =
    ap (λ v. Running (given r v m) s)
    (difference_64 (register m x) (register m y) a b (number I8 a) (number I8 b) e f (refl) (refl))
wrapped_operation Subtract U8 m s r x y a b fa fb e f =
    ap (λ v. Running (given r v m) s)
    (difference_64 (register m x) (register m y) a b (number U8 a) (number U8 b) e f (number_64 a fa) (number_64 b fb))
wrapped_operation Multiply I4 m s r x y a b fa fb e f =
    ap (λ v. Running (given r v m) s)
    (product_32 (register m x) (register m y) a b (number I4 a) (number I4 b) e f (refl) (refl))
wrapped_operation Multiply U4 m s r x y a b fa fb e f =
    ap (λ v. Running (given r v m) s)
    (product_32 (register m x) (register m y) a b (number U4 a) (number U4 b) e f (number_32 a fa) (number_32 b fb))
wrapped_operation Multiply I8 m s r x y a b fa fb e f =
    ap (λ v. Running (given r v m) s)
    (product_64 (register m x) (register m y) a b (number I8 a) (number I8 b) e f (refl) (refl))
wrapped_operation Multiply U8 m s r x y a b fa fb e f =
    ap (λ v. Running (given r v m) s)
    (product_64 (register m x) (register m y) a b (number U8 a) (number U8 b) e f (number_64 a fa) (number_64 b fb))
wrapped_operation And kind m s r x y a b fa fb e f =
    ap (λ v. Running (given r v m) s)
    (bit_and_value (register m x) (register m y) a b e f (wide kind a fa) (wide kind b fb))
wrapped_operation Or kind m s r x y a b fa fb e f =
    ap (λ v. Running (given r v m) s)
    (bit_or_value (register m x) (register m y) a b e f (wide kind a fa) (wide kind b fb))
wrapped_operation ExclusiveOr kind m s r x y a b fa fb e f =
    ap (λ v. Running (given r v m) s)
    (bit_xor_value (register m x) (register m y) a b e f (wide kind a fa) (wide kind b fb))
