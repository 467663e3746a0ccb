-- Bytes spell types exactly as the productions have them.
use Rattle.std.proofs.Common.{◌≡◌, ◌∙◌, ◌++◌, ◌∷◌, ◌≤◌, ◌↔◌, [], ℕ, zero, suc, List, length, take, drop}
use Rattle.std.proofs.Common.{replicate, Ok, Option, Some, None, refl, ap, sym, subst, arith, append-nil}
use Rattle.std.proofs.Common.{take_at, drop_at}
use Rattle.std.proofs.lemmas.List.{length-replicate}
use Rattle.ty_terms.specs.declared.ty.Ty.{Ty}
use Rattle.ty_terms.specs.declared.ty.Ty.TheVariants.{Prim, Named, Vector, ByRef, Var, MVar}
use Rattle.md_sigs.specs.Elements.{element_at}
use Rattle.md_sigs.specs.Grammar.{AreTypes, IsSpelled, first_in, in_front, opened, types_of}
use Rattle.md_sigs.specs.Productions.{AreTypesAt, IsTypeAt, alone, Alone, Modified, VectorOf, ByRefTo, InstanceOf}
use Rattle.md_sigs.specs.Productions.{NoPlace, NextPlace}
use Rattle.md_sigs.specs.declared.element.Element.{Element}
use Rattle.md_sigs.specs.declared.element.Place.{Place}

some_of : {x y : Ty} → Some x ≡ Some y → x ≡ y
some_of h = cc

abbrev nothing : Option Ty
nothing = None

none_of : {y : Ty} → nothing ≡ Some y → ⊥
none_of h = cc

-- ---- what the productions have is spelled

types_at-length : (m : ℕ) (places : List Place) (bytes : List ℕ) (types : List Ty) (rest : List ℕ)
    → AreTypesAt m places bytes types rest → length types ≡ length places
types_at-length m _ _ _ _ (NoPlace bytes) = refl
types_at-length m _ _ _ _ (NextPlace place places bytes behind rest ty types first others) =
    ap suc (types_at-length m places behind types rest others)

-- what is spelled behind more types
record Spelling (m : ℕ) (places : List Place) (bytes : List ℕ) (front : List Ty) (behind : List Element) : Type 0 where
  elements : List Element
  spelled : IsSpelled m places bytes elements
  types : types_of elements ≡ front ++ types_of behind

alone_spelling : (m : ℕ) (place : Place) (places : List Place) (bytes rest : List ℕ) (e : Element) (ty : Ty)
    (behind : List Element) → element_at m place bytes ≡ Ok (e, rest) → alone e ≡ Some ty
    → IsSpelled m places rest behind
    → Spelling m (place ∷ places) bytes (ty ∷ []) behind
alone_spelling m place places bytes rest (Element.Primitive p) ty behind h a s =
    record {
      elements = Element.Primitive p ∷ behind;
      spelled = (rest, h, s);
      types =
          ap (λ t. t ∷ types_of behind) (some_of a);
    }
alone_spelling m place places bytes rest (Element.Named id) ty behind h a s =
    record {
      elements = Element.Named id ∷ behind;
      spelled = (rest, h, s);
      types =
          ap (λ t. t ∷ types_of behind) (some_of a);
    }
alone_spelling m place places bytes rest (Element.Instance id n) ty behind h a s = absurd (none_of a)
alone_spelling m place places bytes rest Element.Vector ty behind h a s = absurd (none_of a)
alone_spelling m place places bytes rest Element.ByRef ty behind h a s = absurd (none_of a)
alone_spelling m place places bytes rest (Element.Var n) ty behind h a s =
    record {
      elements = Element.Var n ∷ behind;
      spelled = (rest, h, s);
      types =
          ap (λ t. t ∷ types_of behind) (some_of a);
    }
alone_spelling m place places bytes rest (Element.MVar n) ty behind h a s =
    record {
      elements = Element.MVar n ∷ behind;
      spelled = (rest, h, s);
      types =
          ap (λ t. t ∷ types_of behind) (some_of a);
    }
alone_spelling m place places bytes rest Element.Modifier ty behind h a s = absurd (none_of a)

mutual
  spelled_type : (m : ℕ) (place : Place) (bytes : List ℕ) (ty : Ty) (rest : List ℕ) → IsTypeAt m place bytes ty rest
      → (places : List Place) (behind : List Element) → IsSpelled m places rest behind
      → Spelling m (place ∷ places) bytes (ty ∷ []) behind
  spelled_type m _ _ _ _ (Alone place bytes rest e ty h a) places behind s =
      alone_spelling m place places bytes rest e ty behind h a s
  spelled_type m _ _ _ _ (Modified place bytes inner rest ty h is) places behind s =
      let r : Spelling m (place ∷ places) inner (ty ∷ []) behind = spelled_type m place inner ty rest is places behind s
      in
      record { elements = Element.Modifier ∷ r.elements; spelled = (inner, h, r.spelled); types = r.types }
  spelled_type m _ _ _ _ (VectorOf place bytes inner rest ty h is) places behind s =
      let r : Spelling m (Place.Plain ∷ places) inner (ty ∷ []) behind =
      spelled_type m Place.Plain inner ty rest is places behind s in
      record {
        elements = Element.Vector ∷ r.elements;
        spelled = (inner, h, r.spelled);
        types = ap (first_in Vector) r.types;
      }
  spelled_type m _ _ _ _ (ByRefTo place bytes inner rest ty h is) places behind s =
      let r : Spelling m (Place.Plain ∷ places) inner (ty ∷ []) behind =
      spelled_type m Place.Plain inner ty rest is places behind s in
      record {
        elements = Element.ByRef ∷ r.elements;
        spelled = (inner, h, r.spelled);
        types = ap (first_in ByRef) r.types;
      }
  spelled_type m _ _ _ _ (InstanceOf place bytes inner rest id n args h are) places behind s =
      let r : Spelling m (replicate n Place.Plain ++ places) inner args behind =
      spelled_types m (replicate n Place.Plain) inner args rest are places behind s in
      let size : length args ≡ n =
      types_at-length m (replicate n Place.Plain) inner args rest are ∙ length-replicate n Place.Plain in
      record {
        elements = Element.Instance id n ∷ r.elements;
        spelled = (inner, h, r.spelled);
        types =
            ap (λ (l : List Ty). Named id (take n l) ∷ drop n l) r.types
            ∙ ap (λ (l : List Ty). Named id l ∷ drop n (args ++ types_of behind))
            (take_at args (types_of behind) n size)
            ∙ ap (λ (l : List Ty). Named id args ∷ l) (drop_at args (types_of behind) n size);
      }

  spelled_types : (m : ℕ) (places : List Place) (bytes : List ℕ) (types : List Ty) (rest : List ℕ)
      → AreTypesAt m places bytes types rest → (more : List Place) (behind : List Element)
      → IsSpelled m more rest behind
      → Spelling m (places ++ more) bytes types behind
  spelled_types m _ _ _ _ (NoPlace bytes) more behind s = record { elements = behind; spelled = s; types = refl }
  spelled_types m _ _ _ _ (NextPlace place places bytes mid rest ty types is are) more behind s =
      let others : Spelling m (places ++ more) mid types behind = spelled_types m places mid types rest are more behind
      s in
      let first : Spelling m (place ∷ (places ++ more)) bytes (ty ∷ []) others.elements =
      spelled_type m place bytes ty mid is (places ++ more) others.elements others.spelled in
      record {
        elements = first.elements;
        spelled = first.spelled;
        types = first.types ∙ ap (λ (l : List Ty). ty ∷ l) others.types;
      }

-- ---- what is spelled is had by the productions

no_places : (m : ℕ) (bytes : List ℕ) (types : List Ty) (rest : List ℕ) → AreTypesAt m [] bytes types rest
    → (types ≡ []) × (bytes ≡ rest)
no_places m _ _ _ (NoPlace bytes) = (refl, refl)

one_place : (m : ℕ) (place : Place) (bytes : List ℕ) (types : List Ty) (rest : List ℕ)
    → AreTypesAt m (place ∷ []) bytes types rest → (ty : Ty) × (types ≡ ty ∷ []) × IsTypeAt m place bytes ty rest
one_place m place _ _ _ (NextPlace _ _ bytes mid rest ty types is are) =
    let n : (types ≡ []) × (mid ≡ rest) = no_places m mid types rest are in
    (ty, ap (λ (l : List Ty). ty ∷ l) n.0, subst (IsTypeAt m place bytes ty) n.1 is)

-- an element with the types that belong to it is a type
record OneType (m : ℕ) (place : Place) (bytes : List ℕ) (e : Element) (inner : List Ty) (rest : List ℕ) : Type 0 where
  ty : Ty
  is : IsTypeAt m place bytes ty rest
  front : (types : List Ty) → in_front e (inner ++ types) ≡ ty ∷ types

alone_type : (m : ℕ) (place : Place) (bytes mid : List ℕ) (e : Element) (ty : Ty) (inner : List Ty) (rest : List ℕ)
    → element_at m place bytes ≡ Ok (e, mid) → alone e ≡ Some ty → ((types : List Ty) → in_front e types ≡ ty ∷ types)
    → AreTypesAt m [] mid inner rest → OneType m place bytes e inner rest
alone_type m place bytes mid e ty inner rest h a front are =
    let n : (inner ≡ []) × (mid ≡ rest) = no_places m mid inner rest are in
    record {
      ty = ty;
      is = subst (IsTypeAt m place bytes ty) n.1 (Alone place bytes mid e ty h a);
      front = λ types. ap (λ (l : List Ty). in_front e (l ++ types)) n.0 ∙ front types;
    }

one_type_of : (m : ℕ) (place : Place) (bytes mid : List ℕ) (e : Element) (inner : List Ty) (rest : List ℕ)
    → element_at m place bytes ≡ Ok (e, mid) → AreTypesAt m (opened e place) mid inner rest
    → OneType m place bytes e inner rest
one_type_of m place bytes mid (Element.Primitive p) inner rest h are =
    alone_type m place bytes mid (Element.Primitive p) (Prim p) inner rest h refl (λ types. refl) are
one_type_of m place bytes mid (Element.Named id) inner rest h are =
    alone_type m place bytes mid (Element.Named id) (Named id []) inner rest h refl (λ types. refl) are
one_type_of m place bytes mid (Element.Instance id n) inner rest h are =
    let size : length inner ≡ n =
    types_at-length m (replicate n Place.Plain) mid inner rest are ∙ length-replicate n Place.Plain in
    record {
      ty = Named id inner;
      is = InstanceOf place bytes mid rest id n inner h are;
      front =
          λ types. ap (λ (l : List Ty). Named id l ∷ drop n (inner ++ types)) (take_at inner types n size)
          ∙ ap (λ (l : List Ty). Named id inner ∷ l) (drop_at inner types n size);
    }
one_type_of m place bytes mid Element.Vector inner rest h are =
    let o : (ty : Ty) × (inner ≡ ty ∷ [])
    × IsTypeAt m Place.Plain mid ty rest = one_place m Place.Plain mid inner rest are in
    record {
      ty = Vector o.0;
      is = VectorOf place bytes mid rest o.0 h o.2;
      front = λ types. ap (λ (l : List Ty). first_in Vector (l ++ types)) o.1;
    }
one_type_of m place bytes mid Element.ByRef inner rest h are =
    let o : (ty : Ty) × (inner ≡ ty ∷ [])
    × IsTypeAt m Place.Plain mid ty rest = one_place m Place.Plain mid inner rest are in
    record {
      ty = ByRef o.0;
      is = ByRefTo place bytes mid rest o.0 h o.2;
      front = λ types. ap (λ (l : List Ty). first_in ByRef (l ++ types)) o.1;
    }
one_type_of m place bytes mid (Element.Var n) inner rest h are =
    alone_type m place bytes mid (Element.Var n) (Var n) inner rest h refl (λ types. refl) are
one_type_of m place bytes mid (Element.MVar n) inner rest h are =
    alone_type m place bytes mid (Element.MVar n) (MVar n) inner rest h refl (λ types. refl) are
one_type_of m place bytes mid Element.Modifier inner rest h are =
    let o : (ty : Ty) × (inner ≡ ty ∷ []) × IsTypeAt m place mid ty rest = one_place m place mid inner rest are in
    record {
      ty = o.0;
      is = Modified place bytes mid rest o.0 h o.2;
      front = λ types. ap (λ (l : List Ty). l ++ types) o.1;
    }

-- the types of the first places, and what is spelled behind them
record Parted (m : ℕ) (places more : List Place) (bytes : List ℕ) (elements : List Element) : Type 0 where
  types : List Ty
  rest : List ℕ
  behind : List Element
  are : AreTypesAt m places bytes types rest
  spelled : IsSpelled m more rest behind
  fewer : length behind ≤ length elements
  joined : types_of elements ≡ types ++ types_of behind

parted : (most : ℕ) (m : ℕ) (places more : List Place) (bytes : List ℕ) (elements : List Element)
    → length elements ≤ most → IsSpelled m (places ++ more) bytes elements → Parted m places more bytes elements
parted most m [] more bytes elements few s = record {
  types = [];
  rest = bytes;
  behind = elements;
  are = NoPlace bytes;
  spelled = s;
  fewer = omega arith;
  joined = refl;
}
parted most m (place ∷ places) more bytes [] few s = absurd s
parted zero m (place ∷ places) more bytes (e ∷ elements) few s = absurd (omega arith)
parted (suc most) m (place ∷ places) more bytes (e ∷ elements) few s =
    let inner : Parted m (opened e place) (places ++ more) s.0 elements =
    parted most m (opened e place) (places ++ more) s.0 elements (omega arith) s.2 in
    let others : Parted m places more inner.rest inner.behind =
    parted most m places more inner.rest inner.behind (omega (arith, inner.fewer)) inner.spelled in
    let one : OneType m place bytes e inner.types inner.rest =
    one_type_of m place bytes s.0 e inner.types inner.rest s.1 inner.are in
    record {
      types = one.ty ∷ others.types;
      rest = others.rest;
      behind = others.behind;
      are = NextPlace place places bytes inner.rest others.rest one.ty others.types one.is others.are;
      spelled = others.spelled;
      fewer = omega (arith, inner.fewer, others.fewer);
      joined =
          ap (in_front e) inner.joined ∙ one.front (types_of inner.behind)
          ∙ ap (λ (l : List Ty). one.ty ∷ l) others.joined;
    }

-- ---- both ways

nothing_behind : (m : ℕ) (rest : List ℕ) (behind : List Element) → IsSpelled m [] rest behind
    → (rest ≡ []) × (behind ≡ [])
nothing_behind m rest [] s = (s, refl)
nothing_behind m rest (e ∷ behind) s = absurd s

pub by_productions : (m : ℕ) (places : List Place) (bytes : List ℕ) (types : List Ty)
    → AreTypes m places bytes types ↔ AreTypesAt m places bytes types []
by_productions m places bytes types = (to, from)
  where
    to : AreTypes m places bytes types → AreTypesAt m places bytes types []
    to a =
        let p : Parted m places [] bytes a.0 =
        parted (length a.0) m places [] bytes a.0 (omega arith)
        (subst (λ (l : List Place). IsSpelled m l bytes a.0) (sym (append-nil places)) a.1) in
        let n : (p.rest ≡ []) × (p.behind ≡ []) = nothing_behind m p.rest p.behind p.spelled in
        let same : p.types ≡ types =
        sym (append-nil p.types) ∙ ap (λ (b : List Element). p.types ++ types_of b) (sym n.1) ∙ sym p.joined ∙ a.2 in
        subst (λ (l : List Ty). AreTypesAt m places bytes l []) same
        (subst (AreTypesAt m places bytes p.types) n.0 p.are)

    from : AreTypesAt m places bytes types [] → AreTypes m places bytes types
    from are =
        let s : Spelling m (places ++ []) bytes types [] = spelled_types m places bytes types [] are [] [] refl in (
          s.elements,
          subst (λ (l : List Place). IsSpelled m l bytes s.elements) (append-nil places) s.spelled,
          s.types ∙ append-nil types,
        )
