-- Headers of streams, one behind another.
use Rattle.std.proofs.Common.{◌≡◌, ◌∙◌, ℕ, zero, suc, ◌+◌, ◌≤◌, Bool, true, false, cond, List, [], ◌∷◌, ◌++◌, length}
use Rattle.std.proofs.Common.{Option, Some, None, Result, Ok, Err, ap, refl, sym, subst, arith}
use Rattle.std.specs.Prelude.{codes, is_some}
use Rattle.std.specs.Option.{option_map}
use Rattle.std.proofs.lemmas.Bool.{leb-true}
use Rattle.std.proofs.lemmas.List.Elements.{All-cons, All-nil}
use Rattle.pe_image.specs.Conditions.{Condition, first_fault, fits}
use Rattle.pe_image.specs.Streams.{Stream, stream_at, streams_at, in_front, with_header, header, header_conditions}
use Rattle.pe_image.specs.Streams.{stream_conditions, whole_streams, AreWhole, AreWithin, bytes_of, stream_named}
use Rattle.pe_image.specs.Streams.{stream_count, streams_of, streams_place, root_conditions, has_tables}
use Rattle.pe_image.specs.Streams.{metadata_conditions}
use Rattle.pe_image.specs.declared.fault.PeFault.{PeFault}
use Rattle.pe_image.specs.declared.fault.PeFault.TheVariants.{Cut, NoCliHeader}
use Rattle.pe_image.proofs.Conditions.{first_held, passes, stops}

-- the streams from a header on that is whole
pub streams_on : (root : List ℕ) (n m at size length : ℕ) → n ≡ suc m → header root at ≡ Some (size, length)
    → streams_at root n at ≡ in_front (stream_at root at length) (streams_at root m (at + size))
streams_on root n m at size length e h = ap (λ k. streams_at root k at) e
    ∙ ap (with_header (streams_at root m) root at) h

pub streams_cut : (root : List ℕ) (n m at : ℕ) → n ≡ suc m → header root at ≡ None → streams_at root n at ≡ Err at
streams_cut root n m at e h = ap (λ k. streams_at root k at) e ∙ ap (with_header (streams_at root m) root at) h

in_front-conditions : (at : ℕ) (s : Stream) (r : Result (List Stream) ℕ)
    → header_conditions at (in_front s r) ≡ header_conditions at r
in_front-conditions at s (Ok streams) = refl
in_front-conditions at s (Err place) = refl

pub headers_on : (at : ℕ) (root : List ℕ) (n m place size length : ℕ) → n ≡ suc m
    → header root place ≡ Some (size, length)
    → first_fault (header_conditions at (streams_at root n place)) ≡ first_fault
    (header_conditions at (streams_at root m (place + size)))
headers_on at root n m place size length e h =
    ap (λ r. first_fault (header_conditions at r)) (streams_on root n m place size length e h)
    ∙ ap first_fault (in_front-conditions at (stream_at root place length) (streams_at root m (place + size)))

pub headers_cut : (at : ℕ) (root : List ℕ) (n m place : ℕ) → n ≡ suc m → header root place ≡ None
    → first_fault (header_conditions at (streams_at root n place)) ≡ Some (Cut (at + place))
headers_cut at root n m place e h = ap (λ r. first_fault (header_conditions at r)) (streams_cut root n m place e h)

headers-ok : (at : ℕ) (r : Result (List Stream) ℕ) → first_fault (header_conditions at r) ≡ None
    → (streams : List Stream) × (r ≡ Ok streams)
headers-ok at (Ok streams) h = (streams, refl)
headers-ok at (Err place) h = cc

pub headers_whole : (at : ℕ) (root : List ℕ) (count place : ℕ)
    → first_fault (header_conditions at (streams_at root count place)) ≡ None → AreWhole root count place
headers_whole at root count place h = headers-ok at (streams_at root count place) h

-- what stands behind the first header is whole where all is
behind : (s : Stream) (r : Result (List Stream) ℕ) (streams : List Stream) → in_front s r ≡ Ok streams
    → (rest : List Stream) × (r ≡ Ok rest)
behind s (Ok rest) streams h = (rest, refl)
behind s (Err place) streams h = cc

pub whole_on : (root : List ℕ) (n m place size length : ℕ) → n ≡ suc m → header root place ≡ Some (size, length)
    → AreWhole root n place → AreWhole root m (place + size)
whole_on root n m place size length e h whole =
    behind (stream_at root place length) (streams_at root m (place + size)) whole.0
    (sym (streams_on root n m place size length e h) ∙ whole.1)

pub not_cut : (root : List ℕ) (n m place : ℕ) → n ≡ suc m → header root place ≡ None → AreWhole root n place → ⊥
not_cut root n m place e h whole = let err : Err place ≡ Ok whole.0 = sym (streams_cut root n m place e h)
    ∙ whole.1 in cc

front-streams : (s : Stream) (r : Result (List Stream) ℕ) (streams : List Stream) → r ≡ Ok streams
    → whole_streams (in_front s r) ≡ s ∷ whole_streams r
front-streams s (Ok rest) streams e = refl
front-streams s (Err place) streams e = cc

-- the list of the streams, the first of them in front
pub list_on : (root : List ℕ) (n m place size length : ℕ) → n ≡ suc m → header root place ≡ Some (size, length)
    → AreWhole root n place
    → whole_streams (streams_at root n place) ≡ stream_at root place length ∷ whole_streams
    (streams_at root m (place + size))
list_on root n m place size length e h whole =
    let rest = whole_on root n m place size length e h whole in
    ap whole_streams (streams_on root n m place size length e h)
    ∙ front-streams (stream_at root place length) (streams_at root m (place + size)) rest.0 rest.1

pub conditions_on : (at : ℕ) (root : List ℕ) (n m place size length : ℕ) → n ≡ suc m
    → header root place ≡ Some (size, length) → AreWhole root n place
    → first_fault (stream_conditions at root (whole_streams (streams_at root n place))) ≡ cond
    (fits root (stream_at root place length).at (stream_at root place length).size)
    (first_fault (stream_conditions at root (whole_streams (streams_at root m (place + size)))))
    (Some (Cut (at + (stream_at root place length).at)))
conditions_on at root n m place size length e h whole = ap (λ l. first_fault (stream_conditions at root l))
    (list_on root n m place size length e h whole)

pub streams_within : (at : ℕ) (root : List ℕ) (streams : List Stream)
    → first_fault (stream_conditions at root streams) ≡ None → AreWithin root streams
streams_within at root [] h = All-nil _
streams_within at root (s ∷ streams) h =
    let both = first_held (fits root s.at s.size) (Cut (at + s.at)) (first_fault (stream_conditions at root streams))
    h in
    All-cons (λ s. s.at + s.size ≤ length root) s streams (leb-true _ _ both.0) (streams_within at root streams both.1)

-- ---- the conditions on a root, part by part; n and p are the number of its streams and the place of their headers

streams-are : (root : List ℕ) (n p : ℕ) → n ≡ stream_count root → p ≡ streams_place root
    → streams_at root n p ≡ streams_at root (stream_count root) (streams_place root)
streams-are root n p e e' = ap (λ m. streams_at root m p) e ∙ ap (streams_at root (stream_count root)) e'

past-headers : (at : ℕ) (root : List ℕ) (n p : ℕ) → n ≡ stream_count root → p ≡ streams_place root
    → first_fault (root_conditions at root) ≡ None → first_fault (header_conditions at (streams_at root n p)) ≡ None
    → first_fault (metadata_conditions at root) ≡ first_fault
    (stream_conditions at root (streams_of root) ++ has_tables (streams_of root))
past-headers at root n p e e' h h' =
    let rest : List Condition = stream_conditions at root (streams_of root) ++ has_tables (streams_of root) in
    let headers : List Condition = header_conditions at (streams_at root (stream_count root) (streams_place root)) in
    passes (root_conditions at root) (headers ++ rest) h
    ∙ passes headers rest (subst (λ r. first_fault (header_conditions at r) ≡ None) (streams-are root n p e e') h')

pub streams_stop : (at : ℕ) (root : List ℕ) (n p : ℕ) (fault : PeFault) → n ≡ stream_count root → p ≡ streams_place root
    → first_fault (root_conditions at root) ≡ None → first_fault (header_conditions at (streams_at root n p)) ≡ None
    → first_fault (stream_conditions at root (whole_streams (streams_at root n p))) ≡ Some fault
    → first_fault (metadata_conditions at root) ≡ Some fault
streams_stop at root n p fault e e' h h' h'' =
    past-headers at root n p e e' h h'
    ∙ stops (stream_conditions at root (streams_of root)) (has_tables (streams_of root)) fault
    (subst (λ r. first_fault (stream_conditions at root (whole_streams r)) ≡ Some fault)
    (streams-are root n p e e') h'')

tables-by : (o : Option Stream) (b : Bool) → is_some o ≡ b
    → first_fault ((is_some o, NoCliHeader) ∷ []) ≡ cond b None (Some NoCliHeader)
tables-by o b e = ap (λ t. cond t None (Some NoCliHeader)) e

some-found : (root bytes : List ℕ) (o : Option Stream) → Some bytes ≡ option_map (bytes_of root) o → is_some o ≡ true
some-found root bytes None e = cc
some-found root bytes (Some s) e = refl

none-found : (root : List ℕ) (o : Option Stream) → None ≡ option_map (bytes_of root) o → is_some o ≡ false
none-found root None e = refl
none-found root (Some s) e = cc

past-streams : (at : ℕ) (root : List ℕ) (n p : ℕ) → n ≡ stream_count root → p ≡ streams_place root
    → first_fault (root_conditions at root) ≡ None → first_fault (header_conditions at (streams_at root n p)) ≡ None
    → first_fault (stream_conditions at root (whole_streams (streams_at root n p))) ≡ None
    → first_fault (metadata_conditions at root) ≡ first_fault (has_tables (whole_streams (streams_at root n p)))
past-streams at root n p e e' h h' h'' =
    past-headers at root n p e e' h h'
    ∙ (passes (stream_conditions at root (streams_of root)) (has_tables (streams_of root))
    (subst (λ r. first_fault (stream_conditions at root (whole_streams r)) ≡ None) (streams-are root n p e e') h'')
    ∙ sym (ap (λ r. first_fault (has_tables (whole_streams r))) (streams-are root n p e e')))

pub has_them : (at : ℕ) (root : List ℕ) (n p : ℕ) (name bytes : List ℕ) → name ≡ codes "#~" → n ≡ stream_count root
    → p ≡ streams_place root → first_fault (root_conditions at root) ≡ None
    → first_fault (header_conditions at (streams_at root n p)) ≡ None
    → first_fault (stream_conditions at root (whole_streams (streams_at root n p))) ≡ None
    → Some bytes ≡ option_map (bytes_of root) (stream_named name (whole_streams (streams_at root n p)))
    → first_fault (metadata_conditions at root) ≡ None
has_them at root n p name bytes is e e' h h' h'' found =
    let tables : Option Stream = stream_named (codes "#~") (whole_streams (streams_at root n p)) in
    past-streams at root n p e e' h h' h''
    ∙ tables-by tables true
    (some-found root bytes tables
    (subst (λ m. Some bytes ≡ option_map (bytes_of root) (stream_named m (whole_streams (streams_at root n p)))) is
    found))

pub lacks_them : (at : ℕ) (root : List ℕ) (n p : ℕ) (name : List ℕ) → name ≡ codes "#~" → n ≡ stream_count root
    → p ≡ streams_place root → first_fault (root_conditions at root) ≡ None
    → first_fault (header_conditions at (streams_at root n p)) ≡ None
    → first_fault (stream_conditions at root (whole_streams (streams_at root n p))) ≡ None
    → None ≡ option_map (bytes_of root) (stream_named name (whole_streams (streams_at root n p)))
    → first_fault (metadata_conditions at root) ≡ Some NoCliHeader
lacks_them at root n p name is e e' h h' h'' found =
    let tables : Option Stream = stream_named (codes "#~") (whole_streams (streams_at root n p)) in
    past-streams at root n p e e' h h' h''
    ∙ tables-by tables false
    (none-found root tables
    (subst (λ m. None ≡ option_map (bytes_of root) (stream_named m (whole_streams (streams_at root n p)))) is
    found))
