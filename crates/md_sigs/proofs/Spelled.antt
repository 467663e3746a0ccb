-- Elements spell one type for each place, and bytes spell elements in one way.
use Rattle.std.proofs.Common.{◌≡◌, ◌∙◌, ◌++◌, ◌∷◌, ◌+◌, [], ℕ, suc, List, length, replicate, Ok, refl}
use Rattle.std.proofs.Common.{ap, sym, subst, arith, length-append, length-drop}
use Rattle.std.proofs.lemmas.List.{length-replicate}
use Rattle.ty_terms.specs.declared.ty.Ty.{Ty}
use Rattle.ty_terms.specs.declared.ty.Ty.TheVariants.{Vector, ByRef}
use Rattle.md_sigs.specs.Grammar.{IsSpelled, first_in, in_front, opened, types_of}
use Rattle.md_sigs.specs.declared.element.Element.{Element}
use Rattle.md_sigs.specs.declared.element.Place.{Place}
use Rattle.md_sigs.proofs.Readers.{done, pair_of}

length-first_in : (within : Ty → Ty) (n : ℕ) (types : List Ty) → length types ≡ suc n
    → length (first_in within types) ≡ suc n
length-first_in within n [] h = absurd (omega (arith, h))
length-first_in within n (ty ∷ types) h = h

length-in_front : (e : Element) (place : Place) (places : List Place) (types : List Ty)
    → length types ≡ length (opened e place ++ places) → length (in_front e types) ≡ suc (length places)
length-in_front (Element.Primitive p) place places types h = ap suc h
length-in_front (Element.Named id) place places types h = ap suc h
length-in_front (Element.Instance id n) place places types h =
    let size : length types ≡ n + length places =
    h ∙ length-append (replicate n Place.Plain) places ∙ ap (λ k. k + length places) (length-replicate n Place.Plain) in
    ap suc (length-drop n types ∙ omega (arith, size))
length-in_front Element.Vector place places types h = length-first_in Vector (length places) types h
length-in_front Element.ByRef place places types h = length-first_in ByRef (length places) types h
length-in_front (Element.Var n) place places types h = ap suc h
length-in_front (Element.MVar n) place places types h = ap suc h
length-in_front Element.Modifier place places types h = h

-- one type for each place
pub counted : (m : ℕ) (places : List Place) (bytes : List ℕ) (elements : List Element)
    → IsSpelled m places bytes elements → length (types_of elements) ≡ length places
counted m [] bytes [] s = refl
counted m [] bytes (e ∷ elements) s = absurd s
counted m (place ∷ places) bytes [] s = absurd s
counted m (place ∷ places) bytes (e ∷ elements) s =
    length-in_front e place places (types_of elements) (counted m (opened e place ++ places) s.0 elements s.2)

-- the elements of some bytes are one list
pub one_spelling : (m : ℕ) (places : List Place) (bytes : List ℕ) (a b : List Element)
    → IsSpelled m places bytes a → IsSpelled m places bytes b → a ≡ b
one_spelling m [] bytes [] [] s t = refl
one_spelling m [] bytes [] (y ∷ b) s t = absurd t
one_spelling m [] bytes (x ∷ a) b s t = absurd s
one_spelling m (place ∷ places) bytes [] b s t = absurd s
one_spelling m (place ∷ places) bytes (x ∷ a) [] s t = absurd t
one_spelling m (place ∷ places) bytes (x ∷ a) (y ∷ b) s t =
    let same : done (y, t.0) ≡ Ok (x, s.0) = sym t.1 ∙ s.1 in
    let t' : IsSpelled m (opened x place ++ places) s.0 b =
    subst (λ (v : Element × List ℕ). IsSpelled m (opened v.0 place ++ places) v.1 b) (pair_of same) t.2 in
    ap (λ (v : Element × List ℕ). v.0 ∷ a) (sym (pair_of same))
    ∙ ap (λ l. y ∷ l) (one_spelling m (opened x place ++ places) s.0 a b s.2 t')
