-- What the instructions give that change the bits of one value: negations, complements and shifts.
use Rattle.std.proofs.Common.{◌≡◌, ◌∙◌, ℕ, ◌-◌, ◌*◌, ◌/◌, ◌%◌, ◌^◌, ◌<◌, ◌≤◌, ℤ, pos, negsuc, ◌-ℤ◌, ◌*ℤ◌}
use Rattle.std.proofs.Common.{FitsSigned, refl, ap, sym, subst, arith, bit_xor}
use Rattle.std.proofs.lemmas.Int.{ints, int_wrap_fits, int_wrap-mul_left}
use Rattle.std.proofs.lemmas.Nat.{shr_le}
use Rattle.std.specs.Int.{Width, cast_unsigned, int_div_euclid, int_shr, int_wrap, w32, w64}
use Rattle.num_core.specs.Bits.{low_bits}
use Rattle.num_core.specs.Integers.{IsOfKind, number, width}
use Rattle.num_core.specs.Run.{Running, Streams}
use Rattle.num_core.specs.declared.kind.Kind.{Kind}
use Rattle.num_core.specs.declared.kind.Kind.TheVariants.{I4, U4, I8, U8}
use Rattle.num_core.specs.declared.kind.ShiftOp.{ShiftOp}
use Rattle.num_core.specs.declared.kind.ShiftOp.TheVariants.{Left, Right, RightUnsigned}
use Rattle.num_core.proofs.WrapLaws.{int_shr-is}
use Rattle.rv_step.specs.Machine.{MachineState, effect, low_word, register, signed_value, signed_word_value, word_value}
use Rattle.rv_code.specs.Code.{given}
use Rattle.lir_core.specs.Values.{changed, value_shifted, word_of}
use Rattle.lir_core.specs.declared.op.UnaryOperation.{UnaryOperation}
use Rattle.lir_core.specs.declared.op.UnaryOperation.TheVariants.{Negate, Complement}
use Rattle.rv_lines.specs.Computing.{changes, shifts}
use Rattle.rv_lines.proofs.Tests.{signed_of_word}
use Rattle.rv_lines.proofs.Values.{bits_of, difference_32, difference_64, in_register_32, in_register_64, left_32}
use Rattle.rv_lines.proofs.Values.{left_64}
use Rattle.rv_lines.proofs.Values.{low_below, low_of_wrapped, number_32, number_64, signed_low_32}
use Rattle.rv_lines.proofs.Words.{flipped, low_32, low_32_signed, low_small}

-- ---- complements

complement_is : (a : ℤ) → 2 ^ 64 - 1 - low_bits 64 a ≡ low_bits 64 (negsuc 0 -ℤ a)
complement_is (pos n) =
    let e : negsuc 0 -ℤ pos n ≡ negsuc n = omega (arith, ints) in
    sym (ap (low_bits 64) e)
complement_is (negsuc n) =
    let e : negsuc 0 -ℤ negsuc n ≡ pos n = omega (arith, ints) in
    let same : 2 ^ 64 - 1 - (2 ^ 64 - 1 - n % 2 ^ 64) ≡ n % 2 ^ 64 = omega arith in
    same ∙ sym (ap (low_bits 64) e)

complement_fits : (w : Width) (a : ℤ) → FitsSigned w a → FitsSigned w (negsuc 0 -ℤ a)
complement_fits w (pos n) fits =
    let e : negsuc 0 -ℤ pos n ≡ negsuc n = omega (arith, ints) in
    subst (FitsSigned w) (sym e) (record { sfits = fits.sfits })
complement_fits w (negsuc n) fits =
    let e : negsuc 0 -ℤ negsuc n ≡ pos n = omega (arith, ints) in
    subst (FitsSigned w) (sym e) (record { sfits = fits.sfits })

complement : (w : Width) (p : ℕ) (a : ℤ) → FitsSigned w a → p ≡ low_bits 64 a
    → bit_xor p (2 ^ 64 - 1) ≡ low_bits 64 (int_wrap w (negsuc 0 -ℤ a))
complement w p a fits e =
    ap (λ n. bit_xor n (2 ^ 64 - 1)) e ∙ flipped (low_bits 64 a) (low_below a) ∙ complement_is a
    ∙ ap (low_bits 64) (sym (int_wrap_fits w (negsuc 0 -ℤ a) (complement_fits w a fits)))

pub changed_value : (operation : UnaryOperation) (kind : Kind) (m : MachineState) (streams : Streams) (r x : ℕ) (a : ℤ)
    → IsOfKind kind a → register m 0 ≡ 0 → register m x ≡ word_of a
    → effect (changes operation kind r x) m streams ≡ Running (given r (word_of (changed operation kind a)) m) streams
changed_value Negate I4 m s r x a fits z e =
    ap (λ v. Running (given r v m) s)
    (difference_32 (register m 0) (register m x) (pos 0) a (pos 0) a z e refl refl)
changed_value Negate U4 m s r x a fits z e =
    ap (λ v. Running (given r v m) s)
    (difference_32 (register m 0) (register m x) (pos 0) a (pos 0) a z e refl refl)
changed_value Negate I8 m s r x a fits z e =
    ap (λ v. Running (given r v m) s)
    (difference_64 (register m 0) (register m x) (pos 0) a (pos 0) a z e refl refl)
changed_value Negate U8 m s r x a fits z e =
    ap (λ v. Running (given r v m) s)
    (difference_64 (register m 0) (register m x) (pos 0) a (pos 0) a z e refl refl)
changed_value Complement kind m s r x a fits z e =
    ap (λ v. Running (given r v m) s) (complement (width kind) (register m x) a fits e)

-- ---- shifts

left_shifted_32 : (p q : ℕ) (a z : ℤ) → p ≡ low_bits 64 a → int_wrap w32 z ≡ int_wrap w32 a
    → low_word (pos p *ℤ pos q) ≡ low_bits 64 (int_wrap w32 (z *ℤ pos q))
left_shifted_32 p q a z e g =
    left_32 (pos p *ℤ pos q) (z *ℤ pos q)
    (sym (int_wrap-mul_left w32 (pos p) (pos q))
    ∙ ap (λ u. int_wrap w32 (u *ℤ pos q)) (ap (λ n. int_wrap w32 (pos n)) e ∙ in_register_32 a ∙ sym g)
    ∙ int_wrap-mul_left w32 z (pos q))

left_shifted_64 : (p q : ℕ) (a z : ℤ) → p ≡ low_bits 64 a → int_wrap w64 z ≡ int_wrap w64 a
    → low_bits 64 (pos p *ℤ pos q) ≡ low_bits 64 (int_wrap w64 (z *ℤ pos q))
left_shifted_64 p q a z e g =
    left_64 (pos p *ℤ pos q) (z *ℤ pos q)
    (sym (int_wrap-mul_left w64 (pos p) (pos q))
    ∙ ap (λ u. int_wrap w64 (u *ℤ pos q)) (ap (λ n. int_wrap w64 (pos n)) e ∙ in_register_64 a ∙ sym g)
    ∙ int_wrap-mul_left w64 z (pos q))

shr_fits : (w : Width) (a : ℤ) (k : ℕ) → FitsSigned w a → FitsSigned w (int_shr a k)
shr_fits w (pos n) k fits = record { sfits = omega (arith, shr_le n k, fits.sfits) }
shr_fits w (negsuc n) k fits = record { sfits = omega (arith, shr_le n k, fits.sfits) }

right_shifted_32 : (p k : ℕ) (a : ℤ) → FitsSigned w32 a → p ≡ low_bits 64 a
    → low_word (int_shr (signed_word_value p) k) ≡ low_bits 64 (int_div_euclid a (pos (2 ^ k)))
right_shifted_32 p k a fits e =
    ap (λ n. low_word (int_shr (signed_word_value n) k)) e
    ∙ ap (λ z. low_word (int_shr z k)) (low_32_signed a fits)
    ∙ ap (low_bits 64) (signed_low_32 (int_shr a k) ∙ int_wrap_fits w32 (int_shr a k) (shr_fits w32 a k fits)
    ∙ int_shr-is a k)

right_shifted_64 : (p k : ℕ) (a : ℤ) → FitsSigned w64 a → p ≡ low_bits 64 a
    → low_bits 64 (int_shr (signed_value p) k) ≡ low_bits 64 (int_div_euclid a (pos (2 ^ k)))
right_shifted_64 p k a fits e =
    ap (λ n. low_bits 64 (int_shr (signed_value n) k)) e
    ∙ ap (λ z. low_bits 64 (int_shr z k)) (signed_of_word a fits)
    ∙ ap (low_bits 64) (int_shr-is a k)

unsigned_shifted_32 : (p k : ℕ) (a : ℤ) → FitsSigned w32 a → p ≡ low_bits 64 a
    → low_word (pos (word_value p / 2 ^ k)) ≡ low_bits 64 (int_wrap w32 (pos (cast_unsigned w32 a / 2 ^ k)))
unsigned_shifted_32 p k a fits e =
    ap (λ n. low_word (pos (word_value n / 2 ^ k))) e
    ∙ ap (λ n. low_word (pos (n / 2 ^ k))) (low_32 a fits)
    ∙ ap (low_bits 64) (signed_low_32 (pos (cast_unsigned w32 a / 2 ^ k)))

unsigned_shifted_64 : (p k : ℕ) (a : ℤ) → FitsSigned w64 a → p ≡ low_bits 64 a
    → p / 2 ^ k ≡ low_bits 64 (int_wrap w64 (pos (cast_unsigned w64 a / 2 ^ k)))
unsigned_shifted_64 p k a fits e =
    let is : p ≡ cast_unsigned w64 a = e ∙ bits_of a fits in
    let below : p < 2 ^ 64 = subst (λ n. n < 2 ^ 64) (sym e) (low_below a) in
    let less : p / 2 ^ k ≤ p = shr_le p k in
    sym (low_small (p / 2 ^ k) (omega (arith, less, below)))
    ∙ sym (low_of_wrapped (pos (p / 2 ^ k)))
    ∙ ap (λ n. low_bits 64 (int_wrap w64 (pos (n / 2 ^ k)))) is

-- by how many bits the low bits of a register move
amount_32 : (q : ℕ) (by : ℤ) → FitsSigned w64 by → q ≡ low_bits 64 by → q % 32 ≡ cast_unsigned w64 by % 32
amount_32 q by fits e = ap (λ n. n % 32) (e ∙ bits_of by fits)

amount_64 : (q : ℕ) (by : ℤ) → FitsSigned w64 by → q ≡ low_bits 64 by → q % 64 ≡ cast_unsigned w64 by % 64
amount_64 q by fits e = ap (λ n. n % 64) (e ∙ bits_of by fits)

pub shifted_value : (operation : ShiftOp) (kind : Kind) (m : MachineState) (streams : Streams) (r x y : ℕ) (a by : ℤ)
    → IsOfKind kind a → IsOfKind I8 by → register m x ≡ word_of a → register m y ≡ word_of by
    → effect (shifts operation kind r x y) m streams
    ≡ Running (given r (word_of (value_shifted operation kind a by)) m) streams
shifted_value Left I4 m s r x y a by fits fits' e f =
    ap (λ k. Running (given r (low_word (pos (register m x * 2 ^ k))) m) s) (amount_32 (register m y) by fits' f)
    ∙ ap (λ v. Running (given r v m) s)
    (left_shifted_32 (register m x) (2 ^ (cast_unsigned w64 by % 32)) a (number I4 a) e refl)
shifted_value Left U4 m s r x y a by fits fits' e f =
    ap (λ k. Running (given r (low_word (pos (register m x * 2 ^ k))) m) s) (amount_32 (register m y) by fits' f)
    ∙ ap (λ v. Running (given r v m) s)
    (left_shifted_32 (register m x) (2 ^ (cast_unsigned w64 by % 32)) a (number U4 a) e (number_32 a fits))
shifted_value Left I8 m s r x y a by fits fits' e f =
    ap (λ k. Running (given r (low_bits 64 (pos (register m x * 2 ^ k))) m) s) (amount_64 (register m y) by fits' f)
    ∙ ap (λ v. Running (given r v m) s)
    (left_shifted_64 (register m x) (2 ^ (cast_unsigned w64 by % 64)) a (number I8 a) e refl)
shifted_value Left U8 m s r x y a by fits fits' e f =
    ap (λ k. Running (given r (low_bits 64 (pos (register m x * 2 ^ k))) m) s) (amount_64 (register m y) by fits' f)
    ∙ ap (λ v. Running (given r v m) s)
    (left_shifted_64 (register m x) (2 ^ (cast_unsigned w64 by % 64)) a (number U8 a) e (number_64 a fits))
shifted_value Right I4 m s r x y a by fits fits' e f =
    ap (λ k. Running (given r (low_word (int_shr (signed_word_value (register m x)) k)) m) s)
    (amount_32 (register m y) by fits' f)
    ∙ ap (λ v. Running (given r v m) s) (right_shifted_32 (register m x) (cast_unsigned w64 by % 32) a fits e)
shifted_value Right U4 m s r x y a by fits fits' e f =
    ap (λ k. Running (given r (low_word (int_shr (signed_word_value (register m x)) k)) m) s)
    (amount_32 (register m y) by fits' f)
    ∙ ap (λ v. Running (given r v m) s) (right_shifted_32 (register m x) (cast_unsigned w64 by % 32) a fits e)
shifted_value Right I8 m s r x y a by fits fits' e f =
    ap (λ k. Running (given r (low_bits 64 (int_shr (signed_value (register m x)) k)) m) s)
    (amount_64 (register m y) by fits' f)
    ∙ ap (λ v. Running (given r v m) s) (right_shifted_64 (register m x) (cast_unsigned w64 by % 64) a fits e)
shifted_value Right U8 m s r x y a by fits fits' e f =
    ap (λ k. Running (given r (low_bits 64 (int_shr (signed_value (register m x)) k)) m) s)
    (amount_64 (register m y) by fits' f)
    ∙ ap (λ v. Running (given r v m) s) (right_shifted_64 (register m x) (cast_unsigned w64 by % 64) a fits e)
shifted_value RightUnsigned I4 m s r x y a by fits fits' e f =
    ap (λ k. Running (given r (low_word (pos (word_value (register m x) / 2 ^ k))) m) s)
    (amount_32 (register m y) by fits' f)
    ∙ ap (λ v. Running (given r v m) s) (unsigned_shifted_32 (register m x) (cast_unsigned w64 by % 32) a fits e)
shifted_value RightUnsigned U4 m s r x y a by fits fits' e f =
    ap (λ k. Running (given r (low_word (pos (word_value (register m x) / 2 ^ k))) m) s)
    (amount_32 (register m y) by fits' f)
    ∙ ap (λ v. Running (given r v m) s) (unsigned_shifted_32 (register m x) (cast_unsigned w64 by % 32) a fits e)
shifted_value RightUnsigned I8 m s r x y a by fits fits' e f =
    ap (λ k. Running (given r (register m x / 2 ^ k) m) s) (amount_64 (register m y) by fits' f)
    ∙ ap (λ v. Running (given r v m) s) (unsigned_shifted_64 (register m x) (cast_unsigned w64 by % 64) a fits e)
shifted_value RightUnsigned U8 m s r x y a by fits fits' e f =
    ap (λ k. Running (given r (register m x / 2 ^ k) m) s) (amount_64 (register m y) by fits' f)
    ∙ ap (λ v. Running (given r v m) s) (unsigned_shifted_64 (register m x) (cast_unsigned w64 by % 64) a fits e)
