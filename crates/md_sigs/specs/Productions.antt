-- Types by the standard's productions (ECMA-335 II.23.2.10 to II.23.2.12): the type in front of some bytes, and the
-- bytes behind it.
use Rattle.std.specs.Prelude.{◌≡◌, ℕ, List, [], ◌∷◌, replicate, Option, Some, None, Ok}
use Rattle.ty_terms.specs.declared.names.TypeId.{TypeId}
use Rattle.ty_terms.specs.declared.ty.Ty.{Ty}
use Rattle.ty_terms.specs.declared.ty.Ty.TheVariants.{Prim, Named, Vector, ByRef, Var, MVar}
use Rattle.md_sigs.specs.Elements.{element_at}
use Rattle.md_sigs.specs.declared.element.Element.{Element}
use Rattle.md_sigs.specs.declared.element.Place.{Place}

-- the type that an element is alone
abbrev pub alone : Element → Option Ty
alone (Element.Primitive p) = Some (Prim p)
alone (Element.Named id) = Some (Named id [])
alone (Element.Instance id n) = None
alone Element.Vector = None
alone Element.ByRef = None
alone (Element.Var n) = Some (Var n)
alone (Element.MVar n) = Some (MVar n)
alone Element.Modifier = None

mutual
  -- a type at a place
  pub data IsTypeAt (m : ℕ) : Place → List ℕ → Ty → List ℕ → Type 0 where
    Alone : (place : Place) (bytes rest : List ℕ) (e : Element) (ty : Ty) → element_at m place bytes ≡ Ok (e, rest)
        → alone e ≡ Some ty → IsTypeAt m place bytes ty rest
    Modified : (place : Place) (bytes inner rest : List ℕ) (ty : Ty)
        → element_at m place bytes ≡ Ok (Element.Modifier, inner) → IsTypeAt m place inner ty rest
        → IsTypeAt m place bytes ty rest
    VectorOf : (place : Place) (bytes inner rest : List ℕ) (ty : Ty)
        → element_at m place bytes ≡ Ok (Element.Vector, inner) → IsTypeAt m Place.Plain inner ty rest
        → IsTypeAt m place bytes (Vector ty) rest
    ByRefTo : (place : Place) (bytes inner rest : List ℕ) (ty : Ty)
        → element_at m place bytes ≡ Ok (Element.ByRef, inner) → IsTypeAt m Place.Plain inner ty rest
        → IsTypeAt m place bytes (ByRef ty) rest
    InstanceOf : (place : Place) (bytes inner rest : List ℕ) (id : TypeId) (n : ℕ) (args : List Ty)
        → element_at m place bytes ≡ Ok (Element.Instance id n, inner)
        → AreTypesAt m (replicate n Place.Plain) inner args rest → IsTypeAt m place bytes (Named id args) rest

  -- types at places, one behind another
  pub data AreTypesAt (m : ℕ) : List Place → List ℕ → List Ty → List ℕ → Type 0 where
    NoPlace : (bytes : List ℕ) → AreTypesAt m [] bytes [] bytes
    NextPlace : (place : Place) (places : List Place) (bytes behind rest : List ℕ) (ty : Ty) (types : List Ty)
        → IsTypeAt m place bytes ty behind → AreTypesAt m places behind types rest
        → AreTypesAt m (place ∷ places) bytes (ty ∷ types) rest
