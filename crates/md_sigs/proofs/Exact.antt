-- What is read is what the function on bytes gives.
use Rattle.std.proofs.Common.{◌≡◌, ◌∙◌, ◌++◌, ◌∷◌, ◌<◌, ◌≤◌, [], ℕ, zero, suc, List, length, Some, Ok, Err}
use Rattle.std.proofs.Common.{true, false, true≢false, Result, refl, ap, sym, append_assoc, append-nil, arith}
use Rattle.std.proofs.Common.{nat_eq, eqb-true}
use Rattle.ty_terms.specs.declared.ty.Ty.{Ty}
use Rattle.md_sigs.specs.Elements.{Reading, element_at, head_at}
use Rattle.md_sigs.specs.Grammar.{opened, places_behind, types_of}
use Rattle.md_sigs.specs.Reading.{fault_at}
use Rattle.md_sigs.specs.Signatures.{element_then, with_element, elements_in, types_if, types_in, says, said_or}
use Rattle.md_sigs.specs.Signatures.{with_types, with_head, signature, first_type, type_with, type_blob, IsTold}
use Rattle.md_sigs.specs.declared.element.Element.{Element}
use Rattle.md_sigs.specs.declared.element.Head.{Head}
use Rattle.md_sigs.specs.declared.element.Place.{Place}
use Rattle.md_sigs.specs.declared.element.Stop.{Stop}
use Rattle.md_sigs.specs.declared.fault.SigFault.{SigFault}
use Rattle.md_sigs.specs.declared.sig.Sig.{Sig}
use Rattle.md_sigs.proofs.Readers.{stop_of}

-- ---- elements one behind another

-- elements in front of what is read behind them
abbrev pub all_then : List Element → Result (List Element) Stop → Result (List Element) Stop
all_then elements (Ok behind) = Ok (elements ++ behind)
all_then elements (Err stop) = Err stop

-- So far these elements were read, and what is left is read behind them.
pub record IsReadBy (m : ℕ) (places : List Place) (bytes : List ℕ) (elements : List Element) (waiting : List Place)
    (rest : List ℕ) : Type 0 where
  pub left : ℕ
  pub enough : length rest ≤ left
  pub joined : elements_in (length bytes) m places bytes ≡ all_then elements (elements_in left m waiting rest)

all_then-none : (r : Result (List Element) Stop) → r ≡ all_then [] r
all_then-none (Ok x) = refl
all_then-none (Err stop) = refl

all_then-one : (elements : List Element) (e : Element) (r : Result (List Element) Stop)
    → all_then elements (element_then e r) ≡ all_then (elements ++ e ∷ []) r
all_then-one elements e (Ok behind) = ap (λ (l : List Element). Ok l) (sym (append_assoc elements (e ∷ []) behind))
all_then-one elements e (Err stop) = refl

pub reads_none : (m : ℕ) (places : List Place) (bytes : List ℕ) → IsReadBy m places bytes [] places bytes
reads_none m places bytes = record {
  left = length bytes;
  enough = omega arith;
  joined = all_then-none (elements_in (length bytes) m places bytes);
}

one_step : (m left : ℕ) (place : Place) (waiting : List Place) (rest behind : List ℕ) (e : Element)
    → element_at m place rest ≡ Ok (e, behind) → length rest ≤ left → length behind < length rest
    → (less : ℕ) × (length behind ≤ less)
    × (elements_in left m (place ∷ waiting) rest
    ≡ element_then e (elements_in less m (opened e place ++ waiting) behind))
one_step m zero place waiting rest behind e h enough shorter = absurd (omega arith)
one_step m (suc less) place waiting rest behind e h enough shorter = (
  less,
  omega arith,
  ap (λ (r : Reading Element). with_element r (λ x l. elements_in less m (opened x place ++ waiting) l)) h,
)

pub reads_more : (m : ℕ) (places : List Place) (bytes : List ℕ) (elements : List Element) (place : Place)
    (waiting : List Place) (rest behind : List ℕ) (e : Element)
    → IsReadBy m places bytes elements (place ∷ waiting) rest → element_at m place rest ≡ Ok (e, behind)
    → length behind < length rest → IsReadBy m places bytes (elements ++ e ∷ []) (opened e place ++ waiting) behind
reads_more m places bytes elements place waiting rest behind e so_far h shorter =
    let s : (less : ℕ) × (length behind ≤ less)
    × (elements_in so_far.left m (place ∷ waiting) rest
    ≡ element_then e (elements_in less m (opened e place ++ waiting) behind)) =
    one_step m so_far.left place waiting rest behind e h so_far.enough shorter in
    record {
      left = s.0;
      enough = s.1;
      joined =
          so_far.joined ∙ ap (all_then elements) s.2
          ∙ all_then-one elements e (elements_in s.0 m (opened e place ++ waiting) behind);
    }

stops_at : (m left : ℕ) (place : Place) (waiting : List Place) (rest : List ℕ) (stop : Stop)
    → element_at m place rest ≡ Err stop → length rest ≤ left → elements_in left m (place ∷ waiting) rest ≡ Err stop
stops_at m zero place waiting [] stop h enough = ap (λ (s : Stop). Err s) (stop_of h)
stops_at m zero place waiting (x ∷ rest) stop h enough = absurd (omega arith)
stops_at m (suc less) place waiting rest stop h enough =
    ap (λ (r : Reading Element). with_element r (λ x l. elements_in less m (opened x place ++ waiting) l)) h

pub reads_stop : (m : ℕ) (places : List Place) (bytes : List ℕ) (elements : List Element) (place : Place)
    (waiting : List Place) (rest : List ℕ) (stop : Stop) → IsReadBy m places bytes elements (place ∷ waiting) rest
    → element_at m place rest ≡ Err stop → elements_in (length bytes) m places bytes ≡ Err stop
reads_stop m places bytes elements place waiting rest stop so_far h =
    so_far.joined ∙ ap (all_then elements) (stops_at m so_far.left place waiting rest stop h so_far.enough)

none_left : (m left : ℕ) → elements_in left m [] [] ≡ Ok []
none_left m zero = refl
none_left m (suc left) = refl

some_left : (m left x : ℕ) (rest : List ℕ) → elements_in left m [] (x ∷ rest) ≡ Err (Stop.Bad (length (x ∷ rest)))
some_left m zero x rest = ap (λ n. Err (Stop.Bad n)) (omega arith)
some_left m (suc left) x rest = ap (λ n. Err (Stop.Bad n)) (omega arith)

-- where no place waits, all is read, or what is left can't go on
pub reads_all : (m : ℕ) (places : List Place) (bytes : List ℕ) (elements : List Element) (waiting : List Place)
    (rest : List ℕ) → IsReadBy m places bytes elements waiting rest → waiting ≡ [] → nat_eq (length rest) 0 ≡ true
    → elements_in (length bytes) m places bytes ≡ Ok elements
reads_all m places bytes elements waiting [] so_far none empty =
    so_far.joined ∙ ap (λ (w : List Place). all_then elements (elements_in so_far.left m w [])) none
    ∙ ap (all_then elements) (none_left m so_far.left) ∙ ap (λ (l : List Element). Ok l) (append-nil elements)
reads_all m places bytes elements waiting (x ∷ rest) so_far none empty =
    absurd (omega (arith, eqb-true (length (x ∷ rest)) 0 empty))

pub reads_on : (m : ℕ) (places : List Place) (bytes : List ℕ) (elements : List Element) (waiting : List Place)
    (rest : List ℕ) → IsReadBy m places bytes elements waiting rest → waiting ≡ [] → nat_eq (length rest) 0 ≡ false
    → elements_in (length bytes) m places bytes ≡ Err (Stop.Bad (length rest))
reads_on m places bytes elements waiting [] so_far none some = absurd (true≢false some)
reads_on m places bytes elements waiting (x ∷ rest) so_far none some =
    so_far.joined ∙ ap (λ (w : List Place). all_then elements (elements_in so_far.left m w (x ∷ rest))) none
    ∙ ap (all_then elements) (some_left m so_far.left x rest)

-- ---- signatures and types

pub told_stop : {A : Type 0} (told : Result A SigFault) (blob : List ℕ) (stop : Stop) → told ≡ Err (fault_at blob stop)
    → IsTold (Err (fault_at blob stop)) told
told_stop told blob (Stop.Bad n) h = h
told_stop told blob (Stop.Outside x) h = h

pub sig_read : (m : ℕ) (blob rest : List ℕ) (head : Head) (types : List Ty) (sig : Sig)
    → head_at blob ≡ Ok (head, rest) → types_in m (places_behind head) rest ≡ Ok types → says head types ≡ Some sig
    → signature m blob ≡ Ok sig
unfolding signature
sig_read m blob rest head types sig h t s = ap (with_head m blob) h ∙ ap (with_types blob head) t ∙ ap said_or s

pub sig_stopped : (m : ℕ) (blob : List ℕ) (stop : Stop) → head_at blob ≡ Err stop
    → IsTold (Err (fault_at blob stop)) (signature m blob)
unfolding signature
sig_stopped m blob stop h = told_stop (signature m blob) blob stop (ap (with_head m blob) h)

pub sig_stopped_behind : (m : ℕ) (blob rest : List ℕ) (head : Head) (stop : Stop) → head_at blob ≡ Ok (head, rest)
    → types_in m (places_behind head) rest ≡ Err stop → IsTold (Err (fault_at blob stop)) (signature m blob)
unfolding signature
sig_stopped_behind m blob rest head stop h t =
    told_stop (signature m blob) blob stop (ap (with_head m blob) h ∙ ap (with_types blob head) t)

pub type_read : (m : ℕ) (blob : List ℕ) (types : List Ty) (ty : Ty)
    → types_in m (Place.Plain ∷ []) blob ≡ Ok types → types ≡ ty ∷ [] → type_blob m blob ≡ Ok ty
unfolding type_blob
type_read m blob types ty t one = ap (type_with blob) t ∙ ap first_type one

pub type_stopped : (m : ℕ) (blob : List ℕ) (stop : Stop) → types_in m (Place.Plain ∷ []) blob ≡ Err stop
    → IsTold (Err (fault_at blob stop)) (type_blob m blob)
unfolding type_blob
type_stopped m blob stop t = told_stop (type_blob m blob) blob stop (ap (type_with blob) t)

-- elements that spell types
pub types_made : (m : ℕ) (places : List Place) (bytes : List ℕ) (elements : List Element) (types : List Ty)
    → elements_in (length bytes) m places bytes ≡ Ok elements → types ≡ types_of elements
    → types_in m places bytes ≡ Ok types
types_made m places bytes elements types h t = ap types_if h ∙ ap (λ (l : List Ty). Ok l) (sym t)

pub types_stopped : (m : ℕ) (places : List Place) (bytes : List ℕ) (stop : Stop)
    → elements_in (length bytes) m places bytes ≡ Err stop → types_in m places bytes ≡ Err stop
types_stopped m places bytes stop h = ap types_if h
