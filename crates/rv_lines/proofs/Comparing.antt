-- What the lines of comparisons give.
use Rattle.std.proofs.Common.{◌≡◌, ◌∙◌, ◌≢◌, ℕ, ◌^◌, ◌<◌, ℤ, pos, Bool, true, false, not, ◌==◌, nat_lt, int_lt}
use Rattle.std.proofs.Common.{int_eq, refl, ap, arith, bit_xor, List, slice_index}
use Rattle.std.proofs.lemmas.Bool.Decides.{nat_tests}
use Rattle.std.proofs.lemmas.Nat.{xor_lt}
use Rattle.num_core.specs.Integers.{IsOfKind}
use Rattle.num_core.specs.declared.kind.Kind.{Kind}
use Rattle.num_core.specs.declared.kind.Kind.TheVariants.{I4, U4, I8, U8}
use Rattle.rv_isa.specs.declared.ins.Ins.{Ins}
use Rattle.rv_step.specs.Machine.{one_if, signed_value, with_register}
use Rattle.lir_core.specs.Step.{one_if as one_or_zero}
use Rattle.lir_core.specs.Values.{holds_of, word_of}
use Rattle.lir_core.specs.declared.op.Test.{Test}
use Rattle.lir_core.specs.declared.op.Test.TheVariants.{Equal, NotEqual, Less, NotLess}
use Rattle.rv_lines.specs.Computing.{compares, is_less}
use Rattle.rv_lines.specs.Leading.{AreRegisters, GivesWord, LeadsTo}
use Rattle.rv_lines.proofs.Leading.{by_registers, got, kept, leads_once, leads_twice}
use Rattle.rv_lines.proofs.Tests.{equal, tested}
use Rattle.rv_lines.proofs.Values.{low_below, wide}
use Rattle.rv_lines.proofs.Words.{xor_is_zero}

pub one_fits : (t : Bool) → one_if t < 2 ^ 64
one_fits true = omega arith
one_fits false = omega arith

below_one : (n : ℕ) → nat_lt n 1 ≡ (n == 0)
below_one n = grind (arith, nat_tests)

above_zero : (n : ℕ) → nat_lt 0 n ≡ not (n == 0)
above_zero n = grind (arith, nat_tests)

turned_over : (t : Bool) → bit_xor (one_if t) 1 ≡ one_if (not t)
turned_over true = refl
turned_over false = refl

-- whether two values are equal, by the bits in which their words differ
no_difference : (kind : Kind) (a b : ℤ) → IsOfKind kind a → IsOfKind kind b
    → (bit_xor (word_of a) (word_of b) == 0) ≡ int_eq a b
no_difference kind a b f g =
    xor_is_zero (word_of a) (word_of b) ∙ equal a b (wide kind a f) (wide kind b g)

differs : (r x y : ℕ) (a b : ℤ) (registers : List ℕ) → slice_index registers x ≡ word_of a
    → slice_index registers y ≡ word_of b → GivesWord (Ins.Xor r x y) registers r (bit_xor (word_of a) (word_of b))
differs r x y a b registers e f =
    by_registers (Ins.Xor r x y) r (λ rs. bit_xor (slice_index rs x) (slice_index rs y)) (λ m s. refl) registers
    (bit_xor (word_of a) (word_of b))
    (ap (λ n. bit_xor n (slice_index registers y)) e ∙ ap (bit_xor (word_of a)) f)

difference_fits : (a b : ℤ) → bit_xor (word_of a) (word_of b) < 2 ^ 64
difference_fits a b = xor_lt 64 (word_of a) (word_of b) (low_below a) (low_below b)

-- whether the first is less
less_by : (kind : Kind) (r x y : ℕ) (a b : ℤ) (registers : List ℕ) → IsOfKind kind a → IsOfKind kind b
    → slice_index registers x ≡ word_of a → slice_index registers y ≡ word_of b
    → GivesWord (is_less kind r x y) registers r (one_if (holds_of Less kind a b))
less_by I4 r x y a b registers f g e e' =
    by_registers (Ins.Slt r x y) r
    (λ rs. one_if (int_lt (signed_value (slice_index rs x)) (signed_value (slice_index rs y)))) (λ m s. refl) registers
    (one_if (holds_of Less I4 a b))
    (ap (λ n. one_if (int_lt (signed_value n) (signed_value (slice_index registers y)))) e
    ∙ ap (λ n. one_if (int_lt (signed_value (word_of a)) (signed_value n))) e' ∙ ap one_if (tested Less I4 a b f g))
less_by U4 r x y a b registers f g e e' =
    by_registers (Ins.Sltu r x y) r (λ rs. one_if (nat_lt (slice_index rs x) (slice_index rs y))) (λ m s. refl)
    registers
    (one_if (holds_of Less U4 a b))
    (ap (λ n. one_if (nat_lt n (slice_index registers y))) e ∙ ap (λ n. one_if (nat_lt (word_of a) n)) e'
    ∙ ap one_if (tested Less U4 a b f g))
less_by I8 r x y a b registers f g e e' =
    by_registers (Ins.Slt r x y) r
    (λ rs. one_if (int_lt (signed_value (slice_index rs x)) (signed_value (slice_index rs y)))) (λ m s. refl) registers
    (one_if (holds_of Less I8 a b))
    (ap (λ n. one_if (int_lt (signed_value n) (signed_value (slice_index registers y)))) e
    ∙ ap (λ n. one_if (int_lt (signed_value (word_of a)) (signed_value n))) e' ∙ ap one_if (tested Less I8 a b f g))
less_by U8 r x y a b registers f g e e' =
    by_registers (Ins.Sltu r x y) r (λ rs. one_if (nat_lt (slice_index rs x) (slice_index rs y))) (λ m s. refl)
    registers
    (one_if (holds_of Less U8 a b))
    (ap (λ n. one_if (nat_lt n (slice_index registers y))) e ∙ ap (λ n. one_if (nat_lt (word_of a) n)) e'
    ∙ ap one_if (tested Less U8 a b f g))

pub compared_lines : (test : Test) (kind : Kind) (r x y : ℕ) (a b : ℤ) (registers : List ℕ) → AreRegisters registers
    → 0 < r → r < 32 → IsOfKind kind a → IsOfKind kind b → slice_index registers x ≡ word_of a
    → slice_index registers y ≡ word_of b
    → LeadsTo (compares test kind r x y) registers r (one_or_zero (holds_of test kind a b))
compared_lines Equal kind r x y a b registers has h h' f g e e' =
    let between : ℕ = bit_xor (word_of a) (word_of b) in
    let middle : List ℕ = with_register registers r between in
    let value : ℕ = one_if (int_eq a b) in
    leads_twice (Ins.Xor r x y) (Ins.Sltiu r r (pos 1)) registers r between value has h h'
    (differs r x y a b registers e e') (difference_fits a b)
    (by_registers (Ins.Sltiu r r (pos 1)) r (λ rs. one_if (nat_lt (slice_index rs r) 1)) (λ m s. refl) middle value
    (ap (λ n. one_if (nat_lt n 1)) (got registers r between has h h')
    ∙ ap one_if (below_one between ∙ no_difference kind a b f g)))
    (one_fits (int_eq a b))
compared_lines NotEqual kind r x y a b registers has h h' f g e e' =
    let between : ℕ = bit_xor (word_of a) (word_of b) in
    let middle : List ℕ = with_register registers r between in
    let value : ℕ = one_if (not (int_eq a b)) in
    let ne : 0 ≢ r = omega (arith, h) in
    let zero_still : slice_index middle 0 ≡ 0 = kept registers r 0 between ne ∙ has.x0 in
    leads_twice (Ins.Xor r x y) (Ins.Sltu r 0 r) registers r between value has h h'
    (differs r x y a b registers e e') (difference_fits a b)
    (by_registers (Ins.Sltu r 0 r) r (λ rs. one_if (nat_lt (slice_index rs 0) (slice_index rs r))) (λ m s. refl) middle
    value
    (ap (λ n. one_if (nat_lt n (slice_index middle r))) zero_still
    ∙ ap (λ n. one_if (nat_lt 0 n)) (got registers r between has h h')
    ∙ ap one_if (above_zero between ∙ ap not (no_difference kind a b f g))))
    (one_fits (not (int_eq a b)))
compared_lines Less kind r x y a b registers has h h' f g e e' =
    leads_once (is_less kind r x y) registers r (one_if (holds_of Less kind a b)) has h h'
    (less_by kind r x y a b registers f g e e') (one_fits (holds_of Less kind a b))
compared_lines NotLess kind r x y a b registers has h h' f g e e' =
    let t : Bool = holds_of Less kind a b in
    let between : ℕ = one_if t in
    let middle : List ℕ = with_register registers r between in
    leads_twice (is_less kind r x y) (Ins.Xori r r (pos 1)) registers r between (one_if (not t)) has h h'
    (less_by kind r x y a b registers f g e e') (one_fits t)
    (by_registers (Ins.Xori r r (pos 1)) r (λ rs. bit_xor (slice_index rs r) 1) (λ m s. refl) middle (one_if (not t))
    (ap (λ n. bit_xor n 1) (got registers r between has h h') ∙ turned_over t))
    (one_fits (not t))
