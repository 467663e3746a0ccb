-- Whole signatures and types: what is read, where they stop, and that they are read in one way.
use Rattle.std.proofs.Common.{◌≡◌, ◌∙◌, ◌++◌, ◌∷◌, [], ℕ, List, length, Ok}
use Rattle.std.proofs.Common.{Err, Bool, refl, ap, sym, subst, append_assoc, append-nil, arith, length-append}
use Rattle.ty_terms.specs.declared.ty.Ty.{Ty}
use Rattle.md_sigs.specs.Elements.{head_at}
use Rattle.md_sigs.specs.Grammar.{AreSig, AreSpelled, AreType, IsSig, IsSpelled, IsType, Says, places_behind}
use Rattle.md_sigs.specs.Grammar.{types_of}
use Rattle.md_sigs.specs.Refusal.{Begins, CannotGoOn, IsRefused, IsStop}
use Rattle.md_sigs.specs.Reading.{IsStopped, fault_at}
use Rattle.md_sigs.specs.declared.element.Head.{Head}
use Rattle.md_sigs.specs.declared.element.Place.{Place}
use Rattle.md_sigs.specs.declared.element.Stop.{Stop}
use Rattle.md_sigs.specs.declared.fault.SigFault.{SigFault}
use Rattle.md_sigs.specs.declared.sig.MethodSig.{MethodSig}
use Rattle.md_sigs.specs.declared.sig.Sig.{Sig}
use Rattle.md_sigs.proofs.Bytes.{is_reader-head}
use Rattle.md_sigs.proofs.Languages.{Leads, stopped_so, stopped_behind}
use Rattle.md_sigs.proofs.Readers.{done, Closed, Open, Taken, pair_of}
use Rattle.md_sigs.proofs.Spelled.{counted, one_spelling}
use Rattle.md_sigs.proofs.Standing.{fills}

-- ---- a stop is a refusal

pub refused_by : (Language : List ℕ → Type 0) (bytes : List ℕ) (stop : Stop) → IsStopped Language bytes stop
    → IsRefused Language bytes (fault_at bytes stop)
refused_by Language bytes (Stop.Bad n) s = (
  s.seen,
  s.left,
  record { joined = s.joined; begun = s.begun; ended = s.ended },
  omega (arith, ap length s.joined, length-append s.seen s.left, s.by.0),
  s.by.1,
)
refused_by Language bytes (Stop.Outside x) s = (
  s.seen,
  s.by.0,
  record {
    joined = s.joined ∙ ap (λ l. s.seen ++ l) s.by.1;
    begun = s.begun;
    ended = subst (CannotGoOn Language s.seen) s.by.1 s.ended;
  },
  s.by.2,
)

-- ---- one type

only_type : (types : List Ty) → length types ≡ 1 → (ty : Ty) × (types ≡ ty ∷ [])
only_type [] h = absurd (omega (arith, h))
only_type (ty ∷ []) h = (ty, refl)
only_type (ty ∷ other ∷ types) h = absurd (omega (arith, h))

pub type_stops : (m : ℕ) (bytes : List ℕ) (stop : Stop) → IsStopped (AreSpelled m (Place.Plain ∷ [])) bytes stop
    → IsStopped (AreType m) bytes stop
type_stops m bytes stop s =
    stopped_so (AreSpelled m (Place.Plain ∷ [])) (AreSpelled m (Place.Plain ∷ [])) (AreType m) (AreType m)
    (λ bytes b. (b.0, is_type (bytes ++ b.0) b.1)) (λ bytes t. (t.1.0, t.1.1)) bytes stop s
  where
    is_type : (bytes : List ℕ) → AreSpelled m (Place.Plain ∷ []) bytes → AreType m bytes
    is_type bytes s =
        let only : (ty : Ty) × (types_of s.0 ≡ ty ∷ []) =
        only_type (types_of s.0) (counted m (Place.Plain ∷ []) bytes s.0 s.1) in
        (only.0, (s.0, s.1, only.1))

-- ---- signatures

-- types that are as many as the places say something
saying : (head : Head) (types : List Ty) → length types ≡ length (places_behind head)
    → (sig : Sig) × Says head types sig
saying Head.Field types h = let only : (ty : Ty) × (types ≡ ty ∷ []) = only_type types h in (Sig.Field only.0, only.1)
saying (Head.Method instance generic n) [] h = absurd (omega (arith, h))
saying (Head.Method instance generic n) (ty ∷ types) h =
    (Sig.Method (record { instance = instance; generic = generic; params = types; result = ty }), (refl, refl, refl))
saying (Head.Locals n) types h = (Sig.Locals types, refl)
saying (Head.Args n) types h = (Sig.Args types, refl)

pub sig_leads : (m : ℕ) (blob rest : List ℕ) (head : Head) → head_at blob ≡ Ok (head, rest)
    → Leads (AreSig m) (AreSig m) (AreSpelled m (places_behind head)) (AreSpelled m (places_behind head)) blob rest
sig_leads m blob rest head h =
    let t : Taken head_at blob rest head = is_reader-head.taken blob rest head h in
    record {
      seen = t.seen;
      joined = t.joined;
      there =
          λ more s. let says : (sig : Sig) × Says head (types_of s.0) sig =
          saying head (types_of s.0) (counted m (places_behind head) more s.0 s.1) in
          (says.0, (head, types_of s.0, (more, t.again more, (s.0, s.1, refl)), says.1));
      back = λ more s. back (t.seen ++ more) more (t.again more) s;
    }
  where
    back : (bytes more : List ℕ) → head_at bytes ≡ Ok (head, more) → AreSig m bytes
        → AreSpelled m (places_behind head) more
    back bytes more again s =
        let same : done (s.1.0, s.1.2.0) ≡ Ok (head, more) = sym s.1.2.1 ∙ again in
        subst (λ (v : Head × List ℕ). AreSpelled m (places_behind v.0) v.1) (pair_of same) (s.1.2.2.0, s.1.2.2.1)

pub sig_stops_behind : (m : ℕ) (blob rest : List ℕ) (head : Head) (stop : Stop) → head_at blob ≡ Ok (head, rest)
    → IsStopped (AreSpelled m (places_behind head)) rest stop → IsStopped (AreSig m) blob stop
sig_stops_behind m blob rest head stop h s =
    stopped_behind (AreSig m) (AreSig m) (AreSpelled m (places_behind head)) (AreSpelled m (places_behind head)) blob
    rest
    (sig_leads m blob rest head h) stop s

pub sig_stops : (m : ℕ) (blob : List ℕ) (stop : Stop) → head_at blob ≡ Err stop → IsStopped (AreSig m) blob stop
sig_stops m blob stop h =
    stopped_so (Closed head_at) (Open head_at) (AreSig m) (AreSig m) begins (λ bytes s. ((s.1.0, s.1.2.0), s.1.2.1))
    blob
    stop (is_reader-head.stops blob stop h)
  where
    begins : (bytes : List ℕ) → Begins (Closed head_at) bytes → Begins (AreSig m) bytes
    begins bytes b =
        let f : (bytes : List ℕ) × AreSpelled m (places_behind b.1.0) bytes = fills m (places_behind b.1.0) in
        let l : Leads (AreSig m) (AreSig m) (AreSpelled m (places_behind b.1.0)) (AreSpelled m (places_behind b.1.0))
        (bytes ++ b.0) [] =
        sig_leads m (bytes ++ b.0) [] b.1.0 b.1.1 in
        let same : l.seen ++ f.0 ≡ bytes ++ (b.0 ++ f.0) =
        ap (λ s. s ++ f.0) (sym (l.joined ∙ append-nil l.seen)) ∙ append_assoc bytes b.0 f.0 in
        (b.0 ++ f.0, subst (AreSig m) same (l.there f.0 f.1))

-- ---- one reading

same_method : (x y : MethodSig) → x.instance ≡ y.instance → x.generic ≡ y.generic → x.params ≡ y.params
    → x.result ≡ y.result → x ≡ y
same_method x y i g p r = λ j. record { instance = i j; generic = g j; params = p j; result = r j }

-- what each beginning says
says_field : (types : List Ty) (sig : Sig) → Says Head.Field types sig
    → (ty : Ty) × (sig ≡ Sig.Field ty) × (types ≡ ty ∷ [])
says_field types (Sig.Field ty) s = (ty, refl, s)
says_field types (Sig.Method x) s = absurd s
says_field types (Sig.Locals x) s = absurd s
says_field types (Sig.Args x) s = absurd s

says_method : (i : Bool) (g n : ℕ) (types : List Ty) (sig : Sig) → Says (Head.Method i g n) types sig
    → (x : MethodSig) × (sig ≡ Sig.Method x) × (x.instance ≡ i) × (x.generic ≡ g) × (types ≡ x.result ∷ x.params)
says_method i g n types (Sig.Field x) s = absurd s
says_method i g n types (Sig.Method x) s = (x, refl, s.0, s.1, s.2)
says_method i g n types (Sig.Locals x) s = absurd s
says_method i g n types (Sig.Args x) s = absurd s

says_locals : (n : ℕ) (types : List Ty) (sig : Sig) → Says (Head.Locals n) types sig → sig ≡ Sig.Locals types
says_locals n types (Sig.Field x) s = absurd s
says_locals n types (Sig.Method x) s = absurd s
says_locals n types (Sig.Locals x) s = ap Sig.Locals (sym s)
says_locals n types (Sig.Args x) s = absurd s

says_args : (n : ℕ) (types : List Ty) (sig : Sig) → Says (Head.Args n) types sig → sig ≡ Sig.Args types
says_args n types (Sig.Field x) s = absurd s
says_args n types (Sig.Method x) s = absurd s
says_args n types (Sig.Locals x) s = absurd s
says_args n types (Sig.Args x) s = ap Sig.Args (sym s)

first_same : (x y : Ty) (xs ys : List Ty) → x ∷ xs ≡ y ∷ ys → x ≡ y
first_same x y xs ys h = cc

rest_same : (x y : Ty) (xs ys : List Ty) → x ∷ xs ≡ y ∷ ys → xs ≡ ys
rest_same x y xs ys h = cc

says_one : (head : Head) (types : List Ty) (a b : Sig) → Says head types a → Says head types b → a ≡ b
says_one Head.Field types a b s t =
    let x : (ty : Ty) × (a ≡ Sig.Field ty) × (types ≡ ty ∷ []) = says_field types a s in
    let y : (ty : Ty) × (b ≡ Sig.Field ty) × (types ≡ ty ∷ []) = says_field types b t in
    x.1 ∙ ap Sig.Field (first_same x.0 y.0 [] [] (sym x.2 ∙ y.2)) ∙ sym y.1
says_one (Head.Method i g n) types a b s t =
    let x : (x : MethodSig) × (a ≡ Sig.Method x) × (x.instance ≡ i) × (x.generic ≡ g) × (types ≡ x.result ∷ x.params) =
    says_method i g n types a s in
    let y : (x : MethodSig) × (b ≡ Sig.Method x) × (x.instance ≡ i) × (x.generic ≡ g) × (types ≡ x.result ∷ x.params) =
    says_method i g n types b t in
    let same : x.0.result ∷ x.0.params ≡ y.0.result ∷ y.0.params = sym x.4 ∙ y.4 in
    x.1 ∙ ap Sig.Method (same_method x.0 y.0 (x.2 ∙ sym y.2) (x.3 ∙ sym y.3)
    (rest_same x.0.result y.0.result x.0.params y.0.params same)
    (first_same x.0.result y.0.result x.0.params y.0.params same)) ∙ sym y.1
says_one (Head.Locals n) types a b s t = says_locals n types a s ∙ sym (says_locals n types b t)
says_one (Head.Args n) types a b s t = says_args n types a s ∙ sym (says_args n types b t)

pub one_sig : (m : ℕ) (blob : List ℕ) (a b : Sig) → IsSig m blob a → IsSig m blob b → a ≡ b
one_sig m blob a b s t =
    let same : done (t.0, t.2.0) ≡ Ok (s.0, s.2.0) = sym t.2.1 ∙ s.2.1 in
    let spelled : IsSpelled m (places_behind s.0) s.2.0 t.2.2.0 =
    subst (λ (v : Head × List ℕ). IsSpelled m (places_behind v.0) v.1 t.2.2.0) (pair_of same) t.2.2.1 in
    let elements : t.2.2.0 ≡ s.2.2.0 =
    one_spelling m (places_behind s.0) s.2.0 t.2.2.0 s.2.2.0 spelled s.2.2.1 in
    let types : t.1 ≡ s.1 = sym t.2.2.2 ∙ ap types_of elements ∙ s.2.2.2 in
    let head : t.0 ≡ s.0 = ap (λ (v : Head × List ℕ). v.0) (pair_of same) in
    says_one s.0 s.1 a b s.3 (subst (λ (h : Head). Says h s.1 b) head (subst (λ (l : List Ty). Says t.0 l b) types t.3))

pub one_type : (m : ℕ) (blob : List ℕ) (a b : Ty) → IsType m blob a → IsType m blob b → a ≡ b
one_type m blob a b s t =
    let elements : s.0 ≡ t.0 = one_spelling m (Place.Plain ∷ []) blob s.0 t.0 s.1 t.1 in
    first_same a b [] [] (sym s.2 ∙ ap types_of elements ∙ t.2)

-- ---- what is refused isn't of the language

pub refused_is_none : (Language : List ℕ → Type 0) (bytes : List ℕ) (fault : SigFault)
    → IsRefused Language bytes fault → (fault ≡ SigFault.Memory → ⊥) → Language bytes → ⊥
refused_is_none Language bytes fault refused no_memory is = by fault refused no_memory
  where
    stop : (seen left : List ℕ) → IsStop Language bytes seen left → ⊥
    stop seen [] s = s.ended (subst Language (s.joined ∙ append-nil seen) is)
    stop seen (x ∷ left) s =
        s.ended (left, subst Language (s.joined ∙ sym (append_assoc seen (x ∷ []) left)) is)

    by : (fault : SigFault) → IsRefused Language bytes fault → (fault ≡ SigFault.Memory → ⊥) → ⊥
    by (SigFault.BadSig offset) r never = stop r.0 r.1 r.2
    by (SigFault.SigOutside x) r never = stop r.0 (x ∷ r.1) r.2
    by SigFault.Memory r never = never refl
