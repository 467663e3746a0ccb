-- The grammar of signatures (ECMA-335 II.23.2). Each element that is a type or part of one stands in front of what
-- belongs to it, so a list of places is spelled from its first place on: there stands an element, and the places that
-- it opens come before those behind it.
use Rattle.std.specs.Prelude.{◌≡◌, ℕ, List, [], ◌∷◌, ◌++◌, take, drop, replicate, Ok}
use Rattle.ty_terms.specs.declared.ty.Ty.{Ty}
use Rattle.ty_terms.specs.declared.ty.Ty.TheVariants.{Prim, Named, Vector, ByRef, Var, MVar}
use Rattle.md_sigs.specs.Elements.{element_at, head_at}
use Rattle.md_sigs.specs.declared.element.Element.{Element}
use Rattle.md_sigs.specs.declared.element.Head.{Head}
use Rattle.md_sigs.specs.declared.element.Place.{Place}
use Rattle.md_sigs.specs.declared.sig.Sig.{Sig}

-- the places for types behind the beginning of a signature: the result of a method stands in front of its parameters
abbrev pub places_behind : Head → List Place
places_behind Head.Field = Place.Plain ∷ []
places_behind (Head.Method instance generic n) = Place.Returned ∷ replicate n Place.Variable
places_behind (Head.Locals n) = replicate n Place.Variable
places_behind (Head.Args n) = replicate n Place.Plain

-- The places for types that belong to an element. What a modifier stands in front of may be whatever could stand in its
-- place.
abbrev pub opened : Element → Place → List Place
opened (Element.Primitive p) place = []
opened (Element.Named id) place = []
opened (Element.Instance id n) place = replicate n Place.Plain
opened Element.Vector place = Place.Plain ∷ []
opened Element.ByRef place = Place.Plain ∷ []
opened (Element.Var n) place = []
opened (Element.MVar n) place = []
opened Element.Modifier place = place ∷ []

-- the bytes, all of them, spell these elements at these places
abbrev pub IsSpelled : ℕ → List Place → List ℕ → List Element → Type 0
IsSpelled m [] bytes [] = bytes ≡ []
IsSpelled m [] bytes (e ∷ elements) = ⊥
IsSpelled m (place ∷ places) bytes [] = ⊥
IsSpelled m (place ∷ places) bytes (e ∷ elements) =
    (rest : List ℕ) × (element_at m place bytes ≡ Ok (e, rest)) × IsSpelled m (opened e place ++ places) rest elements

-- the first of some types, put into a type
abbrev pub first_in : (Ty → Ty) → List Ty → List Ty
first_in within [] = []
first_in within (ty ∷ types) = within ty ∷ types

-- An element in front of types: it takes what belongs to it off their front, and puts its own type there.
abbrev pub in_front : Element → List Ty → List Ty
in_front (Element.Primitive p) types = Prim p ∷ types
in_front (Element.Named id) types = Named id [] ∷ types
in_front (Element.Instance id n) types = Named id (take n types) ∷ drop n types
in_front Element.Vector types = first_in Vector types
in_front Element.ByRef types = first_in ByRef types
in_front (Element.Var n) types = Var n ∷ types
in_front (Element.MVar n) types = MVar n ∷ types
in_front Element.Modifier types = types

-- elements in front of types
abbrev pub all_in_front : List Element → List Ty → List Ty
all_in_front [] types = types
all_in_front (e ∷ elements) types = in_front e (all_in_front elements types)

-- the types that elements spell, one for each place
abbrev pub types_of : List Element → List Ty
types_of elements = all_in_front elements []

-- the bytes, all of them, spell one type for each place
abbrev pub AreTypes : ℕ → List Place → List ℕ → List Ty → Type 0
AreTypes m places bytes types =
    (elements : List Element) × IsSpelled m places bytes elements × (types_of elements ≡ types)

-- the bytes begin with this, and the rest of them are its types
abbrev pub IsBehind : ℕ → List ℕ → Head → List Ty → Type 0
IsBehind m blob head types =
    (rest : List ℕ) × (head_at blob ≡ Ok (head, rest)) × AreTypes m (places_behind head) rest types

-- what a beginning and the types behind it say
abbrev pub Says : Head → List Ty → Sig → Type 0
Says Head.Field types (Sig.Field ty) = types ≡ ty ∷ []
Says (Head.Method instance generic n) types (Sig.Method sig) =
    (sig.instance ≡ instance) × (sig.generic ≡ generic) × (types ≡ sig.result ∷ sig.params)
Says (Head.Locals n) types (Sig.Locals list) = types ≡ list
Says (Head.Args n) types (Sig.Args list) = types ≡ list
Says _ _ _ = ⊥

-- FieldSig, MethodDefSig and MethodRefSig, LocalVarSig and MethodSpec (II.23.2.1 to II.23.2.6, II.23.2.15)
abbrev pub IsSig : ℕ → List ℕ → Sig → Type 0
IsSig m blob sig = (head : Head) × (types : List Ty) × IsBehind m blob head types × Says head types sig

-- the bytes are one type, as in a row of TypeSpec (II.23.2.14)
abbrev pub IsType : ℕ → List ℕ → Ty → Type 0
IsType m blob ty = AreTypes m (Place.Plain ∷ []) blob (ty ∷ [])

-- the bytes are a signature; they are a type
abbrev pub AreSig : ℕ → List ℕ → Type 0
AreSig m blob = (sig : Sig) × IsSig m blob sig

abbrev pub AreType : ℕ → List ℕ → Type 0
AreType m blob = (ty : Ty) × IsType m blob ty

-- the bytes can be read as types at these places
abbrev pub AreSpelled : ℕ → List Place → List ℕ → Type 0
AreSpelled m places bytes = (elements : List Element) × IsSpelled m places bytes elements
