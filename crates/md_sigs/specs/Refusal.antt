-- Where bytes leave a language: the first byte with which nothing of the language can begin.
use Rattle.std.specs.Prelude.{◌≡◌, ℕ, List, [], ◌∷◌, ◌++◌, ◌⊎◌, length, IsTrue, Some}
use Rattle.ty_terms.specs.declared.ty.Primitive.{Primitive}
use Rattle.md_sigs.specs.Elements.{is_outside, primitive_of}
use Rattle.md_sigs.specs.declared.fault.SigFault.{SigFault}

-- something of the language begins with these bytes
abbrev pub Begins : (List ℕ → Type 0) → List ℕ → Type 0
Begins Language bytes = (more : List ℕ) × Language (bytes ++ more)

-- nothing of the language begins with the bytes seen and the first of those left; or where none is left, those seen
-- aren't of the language
abbrev pub CannotGoOn : (List ℕ → Type 0) → List ℕ → List ℕ → Type 0
CannotGoOn Language seen [] = ¬ (Language seen)
CannotGoOn Language seen (x ∷ left) = ¬ (Begins Language (seen ++ x ∷ []))

-- the bytes up to the first that can't go on, and that byte with those behind it
pub record IsStop (Language : List ℕ → Type 0) (bytes seen left : List ℕ) : Type 0 where
  pub joined : bytes ≡ seen ++ left
  pub begun : Begins Language seen
  pub ended : CannotGoOn Language seen left

-- Behind these bytes the element type is outside: a type could stand there, and the standard defines it, but no type
-- has it; or it is BYREF (10), where the result of a method begins, since VOID (01) could stand there.
abbrev pub IsElementOutside : (List ℕ → Type 0) → List ℕ → ℕ → Type 0
IsElementOutside Language seen x =
    (IsTrue (is_outside x) × ((y : ℕ) (p : Primitive) → primitive_of y ≡ Some p → Begins Language (seen ++ y ∷ [])))
    ⊎ ((x ≡ 0x10) × Begins Language (seen ++ 0x01 ∷ []))

abbrev pub IsFirstOutside : (List ℕ → Type 0) → List ℕ → List ℕ → Type 0
IsFirstOutside Language seen [] = ⊥
IsFirstOutside Language seen (x ∷ left) = IsElementOutside Language seen x

-- Why bytes aren't of a language of signatures: an element type outside is the first that can't go on, or at this
-- offset stands the first byte that can't, which is no such element type. Where the bytes end too early, that is the
-- offset of their end.
abbrev pub IsRefused : (List ℕ → Type 0) → List ℕ → SigFault → Type 0
IsRefused Language bytes (SigFault.BadSig offset) =
    (seen : List ℕ) × (left : List ℕ) × IsStop Language bytes seen left × (length seen ≡ offset)
    × ¬ (IsFirstOutside Language seen left)
IsRefused Language bytes (SigFault.SigOutside x) =
    (seen : List ℕ) × (left : List ℕ) × IsStop Language bytes seen (x ∷ left) × IsElementOutside Language seen x
IsRefused Language bytes SigFault.Memory = Unit {0}
