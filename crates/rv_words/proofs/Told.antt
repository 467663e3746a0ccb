-- The values that operations read: numbers of a kind, held in words.
use Rattle.std.proofs.Common.{◌≡◌, ◌∙◌, ℕ, ◌^◌, ◌<◌, Bool, true, false, cond, ℤ}
use Rattle.std.proofs.Common.{Option, Some, None, FitsSigned, arith, refl, ap, subst}
use Rattle.std.specs.Option.{option_and_then}
use Rattle.std.specs.Int.{Width}
use Rattle.std.proofs.lemmas.Int.{SFits-int_wrap}
use Rattle.num_core.proofs.IntegerLaws.{reading-inside}
use Rattle.std.proofs.lemmas.Bool.Decides.{nat_tests}
use Rattle.num_core.specs.Bits.{low_bits, signed}
use Rattle.num_core.specs.Integers.{IsOfKind, lies_in, width}
use Rattle.num_core.specs.declared.kind.Kind.{Kind}
use Rattle.lir_core.specs.Slots.{Here, value_in, word_in}
use Rattle.lir_core.specs.Values.{value_of, word_of}

-- a slot holds the word of a value of the kind
pub record IsValue (here : Here) (kind : Kind) (slot : ℕ) (a : ℤ) : Type 0 where
  pub word : ℕ
  pub there : word_in here slot ≡ Some word
  pub of_kind : IsOfKind kind a
  pub is : word < 2 ^ 64 → word ≡ word_of a

word_back : (w : ℕ) → w < 2 ^ 64 → w ≡ low_bits 64 (signed 64 w)
word_back w h = grind (arith, nat_tests)

-- what lies in the range of a width fits it
fits_in : (w : Width) (z : ℤ) → lies_in true w z ≡ true → FitsSigned w z
fits_in w z e = subst (FitsSigned w) (reading-inside true w z e) (SFits-int_wrap w z)

of_kind : (kind : Kind) (z : ℤ) → lies_in true (width kind) z ≡ true → IsOfKind kind z
of_kind kind z e = fits_in (width kind) z e

pub value_told : (here : Here) (kind : Kind) (slot : ℕ) (a : ℤ) → value_in here kind slot ≡ Some a
    → IsValue here kind slot a
value_told here kind slot a told = by (word_in here slot) refl told
  where
    inside : (w : ℕ) → word_in here slot ≡ Some w → (b : Bool) → lies_in true (width kind) (signed 64 w) ≡ b
        → cond b (Some (signed 64 w)) None ≡ Some a → IsValue here kind slot a
    inside w there true lies e =
        let same : signed 64 w ≡ a = cc in
        record {
          word = w;
          there = there;
          of_kind = subst (IsOfKind kind) same (of_kind kind (signed 64 w) lies);
          is = λ h. word_back w h ∙ ap (low_bits 64) same;
        }
    inside w there false lies e = cc

    by : (o : Option ℕ) → word_in here slot ≡ o → option_and_then (value_of kind) o ≡ Some a
        → IsValue here kind slot a
    by None there e = cc
    by (Some w) there e = inside w there (lies_in true (width kind) (signed 64 w)) refl e
