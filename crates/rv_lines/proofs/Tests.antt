-- What tests of values say of the words that hold them.
use Rattle.std.proofs.Common.{◌≡◌, ◌∙◌, refl, ℤ, Bool, true, false, not, ◌==◌, int_lt}
use Rattle.std.proofs.Common.{int_eq, ap, sym}
use Rattle.std.proofs.Common.{arith, Decides, FitsSigned, nat_lt}
use Rattle.std.specs.Cmp.{signed_Decides, unsigned_Decides}
use Rattle.std.proofs.lemmas.Int.{to_z-of_z}
use Rattle.std.specs.Int.{cast_signed, cast_unsigned, w32, w64}
use Rattle.num_core.specs.Bits.{low_bits}
use Rattle.num_core.specs.Integers.{IsOfKind}
use Rattle.num_core.specs.declared.kind.Kind.{Kind}
use Rattle.num_core.specs.declared.kind.Kind.TheVariants.{I4, U4, I8, U8}
use Rattle.num_core.proofs.WrapLaws.{ltb-cast_unsigned}
use Rattle.rv_step.specs.Machine.{signed_value}
use Rattle.lir_core.specs.Values.{holds_of, word_of}
use Rattle.lir_core.specs.declared.op.Test.{Test}
use Rattle.rv_lines.specs.Computing.{condition_of}
use Rattle.rv_lines.specs.Holds.{holds}
use Rattle.rv_lines.proofs.Values.{bits_of, wide}

pub same_test : {P Q : Type 0} (s t : Bool) → Decides s P → Decides t Q → (P → Q) → (Q → P) → s ≡ t
same_test true true p q f g = refl
same_test true false p q f g = sym (q.1 (f (p.0 refl)))
same_test false true p q f g = p.1 (g (q.0 refl))
same_test false false p q f g = refl

pub signed_of_word : (a : ℤ) → FitsSigned w64 a → signed_value (low_bits 64 a) ≡ a
signed_of_word a fits = ap (cast_signed w64) (bits_of a fits) ∙ to_z-of_z w64 a fits

pub equal : (a b : ℤ) → FitsSigned w64 a → FitsSigned w64 b → (word_of a == word_of b) ≡ int_eq a b
equal a b f g =
    same_test (word_of a == word_of b) (int_eq a b) (unsigned_Decides (word_of a) (word_of b)) (signed_Decides a b)
    (λ e. sym (signed_of_word a f) ∙ ap signed_value e ∙ signed_of_word b g) (λ e. ap (low_bits 64) e)

pub less : (a b : ℤ) → FitsSigned w64 a → FitsSigned w64 b
    → int_lt (signed_value (word_of a)) (signed_value (word_of b)) ≡ int_lt a b
less a b f g =
    ap (λ z. int_lt z (signed_value (word_of b))) (signed_of_word a f) ∙ ap (int_lt a) (signed_of_word b g)

pub less_unsigned : (a b : ℤ) → FitsSigned w64 a → FitsSigned w64 b
    → nat_lt (word_of a) (word_of b) ≡ nat_lt (cast_unsigned w64 a) (cast_unsigned w64 b)
less_unsigned a b f g = ap (λ n. nat_lt n (word_of b)) (bits_of a f) ∙ ap (nat_lt (cast_unsigned w64 a)) (bits_of b g)

pub less_unsigned_32 : (a b : ℤ) → FitsSigned w32 a → FitsSigned w32 b
    → nat_lt (word_of a) (word_of b) ≡ nat_lt (cast_unsigned w32 a) (cast_unsigned w32 b)
less_unsigned_32 a b f g =
    less_unsigned a b (wide I4 a f) (wide I4 b g) ∙ ltb-cast_unsigned w32 w64 a b (omega arith) f g

pub tested : (test : Test) (kind : Kind) (a b : ℤ) → IsOfKind kind a → IsOfKind kind b
    → holds (condition_of test kind) (word_of a) (word_of b) ≡ holds_of test kind a b
tested Test.Equal kind a b f g = equal a b (wide kind a f) (wide kind b g)
tested Test.NotEqual kind a b f g = ap not (equal a b (wide kind a f) (wide kind b g))
tested Test.Less I4 a b f g = less a b (wide I4 a f) (wide I4 b g)
tested Test.Less U4 a b f g = less_unsigned_32 a b f g
tested Test.Less I8 a b f g = less a b f g
tested Test.Less U8 a b f g = less_unsigned a b f g
tested Test.NotLess I4 a b f g = ap not (less a b (wide I4 a f) (wide I4 b g))
tested Test.NotLess U4 a b f g = ap not (less_unsigned_32 a b f g)
tested Test.NotLess I8 a b f g = ap not (less a b f g)
tested Test.NotLess U8 a b f g = ap not (less_unsigned a b f g)
