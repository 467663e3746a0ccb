-- What a blob says, as a function: the grammar of signatures (II.23.2) read from the front.
use Rattle.std.specs.Prelude.{◌≡◌, ℕ, zero, suc, ◌+◌, List, [], ◌∷◌, ◌++◌, length, Option, Some, None, Result, Ok, Err}
use Rattle.ty_terms.specs.declared.ty.Ty.{Ty}
use Rattle.md_sigs.specs.Elements.{Reading, element_at, head_at}
use Rattle.md_sigs.specs.Grammar.{opened, places_behind, types_of}
use Rattle.md_sigs.specs.Reading.{fault_at}
use Rattle.md_sigs.specs.declared.element.Element.{Element}
use Rattle.md_sigs.specs.declared.element.Head.{Head}
use Rattle.md_sigs.specs.declared.element.Place.{Place}
use Rattle.md_sigs.specs.declared.element.Stop.{Stop}
use Rattle.md_sigs.specs.declared.fault.SigFault.{SigFault}
use Rattle.md_sigs.specs.declared.sig.Sig.{Sig}

abbrev pub element_then : Element → Result (List Element) Stop → Result (List Element) Stop
element_then element (Ok elements) = Ok (element ∷ elements)
element_then element (Err stop) = Err stop

abbrev pub with_element : Reading Element → (Element → List ℕ → Result (List Element) Stop) → Result (List Element) Stop
with_element (Err stop) next = Err stop
with_element (Ok read) next = element_then read.0 (next read.0 read.1)

-- The elements that bytes, all of them, spell at places. Each takes a byte at least, so there are no more than bytes.
abbrev pub elements_in : ℕ → ℕ → List Place → List ℕ → Result (List Element) Stop
elements_in left m [] [] = Ok []
elements_in left m [] (byte ∷ rest) = Err (Stop.Bad (length rest + 1))
elements_in zero m (place ∷ places) bytes = Err (Stop.Bad (length bytes))
elements_in (suc left) m (place ∷ places) bytes =
    with_element (element_at m place bytes) (λ element rest. elements_in left m (opened element place ++ places) rest)

abbrev pub types_if : Result (List Element) Stop → Result (List Ty) Stop
types_if (Ok elements) = Ok (types_of elements)
types_if (Err stop) = Err stop

-- the types that bytes, all of them, spell, one for each place
abbrev pub types_in : ℕ → List Place → List ℕ → Result (List Ty) Stop
types_in m places bytes = types_if (elements_in (length bytes) m places bytes)

-- what a beginning and the types behind it say
abbrev pub says : Head → List Ty → Option Sig
says Head.Field (ty ∷ []) = Some (Sig.Field ty)
says (Head.Method instance generic n) (result ∷ params) =
    Some (Sig.Method (record { instance = instance; generic = generic; params = params; result = result }))
says (Head.Locals n) types = Some (Sig.Locals types)
says (Head.Args n) types = Some (Sig.Args types)
says _ _ = None

abbrev pub said_or : Option Sig → Result Sig SigFault
said_or (Some sig) = Ok sig
said_or None = Err (SigFault.BadSig 0)

abbrev pub with_types : List ℕ → Head → Result (List Ty) Stop → Result Sig SigFault
with_types blob head (Err stop) = Err (fault_at blob stop)
with_types blob head (Ok types) = said_or (says head types)

abbrev pub with_head : ℕ → List ℕ → Reading Head → Result Sig SigFault
with_head m blob (Err stop) = Err (fault_at blob stop)
with_head m blob (Ok read) = with_types blob read.0 (types_in m (places_behind read.0) read.1)

-- The signature that a blob of a module is, or the first fault.
unfoldable pub signature : ℕ → List ℕ → Result Sig SigFault
signature m blob = with_head m blob (head_at blob)

abbrev pub first_type : List Ty → Result Ty SigFault
first_type [] = Err (SigFault.BadSig 0)
first_type (ty ∷ rest) = Ok ty

abbrev pub type_with : List ℕ → Result (List Ty) Stop → Result Ty SigFault
type_with blob (Err stop) = Err (fault_at blob stop)
type_with blob (Ok types) = first_type types

-- The type that a blob of a module is (II.23.2.14), or the first fault.
unfoldable pub type_blob : ℕ → List ℕ → Result Ty SigFault
type_blob m blob = type_with blob (types_in m (Place.Plain ∷ []) blob)

-- What a call answers is this, but for want of memory.
abbrev pub IsTold : {A : Type 0} → Result A SigFault → Result A SigFault → Type 0
IsTold (Ok read) told = told ≡ Ok read
IsTold (Err (SigFault.BadSig offset)) told = told ≡ Err (SigFault.BadSig offset)
IsTold (Err (SigFault.SigOutside element)) told = told ≡ Err (SigFault.SigOutside element)
IsTold (Err SigFault.Memory) told = Unit {0}
