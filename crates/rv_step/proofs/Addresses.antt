-- What stands at addresses, whatever segments hold them.
use Rattle.std.proofs.Common.{◌≡◌, ◌∙◌, refl, sym, ap, subst, ℕ, zero, suc, ◌+◌, ◌-◌, ◌<◌, ◌≤◌, ◌⊎◌, inl, inr, Bool}
use Rattle.std.proofs.Common.{true, false, cond, ◌&&◌, ◌||◌, List, [], ◌∷◌, ◌++◌, length, take, drop, get_or, Option}
use Rattle.std.proofs.Common.{Some, None, length-append, length-take, length-drop, arith}
use Rattle.std.specs.Prelude.{AllPairs, nat_le, slice_index, map}
use Rattle.std.specs.Option.{option_map}
use Rattle.std.proofs.lemmas.Bool.{cases_Bool, cases_eq, and_parts, and_from, le-leb, true≢false}
use Rattle.std.proofs.lemmas.List.{get_or_append_left, get_or-append_right, get_or-take, get_or-drop, length-map}
use Rattle.rv_step.specs.Machine.{MachineState, covers, bytes_at, with_bytes_at, overwritten}
use Rattle.rv_step.specs.Memory.{byte_in, Bytes, is_allowed, AllowsTheSame, AreApart, Writes}
use Rattle.rv_step.specs.Segments.{AreDisjoint, AreSegments, Holds, part, patched}
use Rattle.rv_step.specs.declared.segment.Segment.{Segment}
use Rattle.rv_step.proofs.Exchanges.{length_overwritten}
use Rattle.rv_step.proofs.Memory.{covered}

-- ---- choices

cond_same : {A : Type 0} (b b' : Bool) (x x' y y' : A) → b ≡ b' → (b ≡ true → x ≡ x') → y ≡ y'
    → cond b x y ≡ cond b' x' y'
cond_same true true x x' y y' e f g = f refl
cond_same false false x x' y y' e f g = g
cond_same true false x x' y y' e f g = absurd (true≢false e)
cond_same false true x x' y y' e f g = absurd (true≢false (sym e))

pub if_true : {A : Type 0} (b : Bool) (x y : A) → b ≡ true → cond b x y ≡ x
if_true b x y e = ap (λ t. cond t x y) e

pub if_false : {A : Type 0} (b : Bool) (x y : A) → b ≡ false → cond b x y ≡ y
if_false b x y e = ap (λ t. cond t x y) e

mapped_some : {A B : Type 0} (f : A → B) (o : Option A) (y : B) → option_map f o ≡ Some y
    → (x : A) × (o ≡ Some x) × (f x ≡ y)
mapped_some f None y e = cc
mapped_some f (Some x) y e = (x, refl, cc)

-- ---- segments that have an address

inside : (x : ℕ) (s : Segment) → covers x 1 s ≡ true → Holds x s
inside x s h = let at = covered x 1 s h in (at.0, omega (arith, at.1))

covers_by : (address count : ℕ) (s : Segment) → s.at ≤ address → address + count ≤ s.at + length s.bytes
    → covers address count s ≡ true
covers_by address count s low high =
    and_from (nat_le s.at address) (nat_le (address + count) (s.at + length s.bytes)) (le-leb s.at address low)
    (le-leb (address + count) (s.at + length s.bytes) high)

-- no address of a segment is one of these
abbrev IsApartFrom : Segment → List Segment → Type 0
IsApartFrom s [] = Unit {0}
IsApartFrom s (t ∷ segments) = AreDisjoint s t × IsApartFrom s segments

abbrev pub AreParted : List Segment → Type 0
AreParted [] = Unit {0}
AreParted (s ∷ segments) = IsApartFrom s segments × AreParted segments

apart_from : (s : Segment) (segments : List Segment)
    → ((k : ℕ) (d : Segment) → k < length segments → AreDisjoint s (get_or segments k d)) → IsApartFrom s segments
apart_from s [] h = tt
apart_from s (t ∷ segments) h = (h 0 s (omega arith), apart_from s segments (λ k d lt. h (suc k) d (omega arith)))

pub parted : (segments : List Segment) → AllPairs AreDisjoint segments → AreParted segments
parted [] h = tt
parted (s ∷ segments) h = (
  apart_from s segments (λ k d lt. h 0 (suc k) d (omega arith) (omega arith)),
  parted segments (λ i j d lt within. h (suc i) (suc j) d (omega arith) (omega arith)),
)

not_both : (x : ℕ) (s t : Segment) → AreDisjoint s t → Holds x t → covers x 1 s ≡ false
not_both x s t apart there = elim (cases_Bool (covers x 1 s)) as (λ _. covers x 1 s ≡ false) [
  | inl serving ↦ absurd (apart x (inside x s serving) there)
  | inr missing ↦ missing
]

-- an address among others that a segment covers
among : (address count x : ℕ) (s : Segment) → covers address count s ≡ true → address ≤ x → x < address + count
    → Holds x s
among address count x s h low high = let at = covered address count s h in
    (omega (arith, at.0), omega (arith, at.1))

here : (address count x : ℕ) (s : Segment) → covers address count s ≡ true → address ≤ x → x < address + count
    → covers x 1 s ≡ true
here address count x s h low high = let at = among address count x s h low high in
    covers_by x 1 s at.0 (omega (arith, at.1))

-- ---- reading

read_elsewhere : (allows : Segment → Bool) (address count x : ℕ) (s : Segment) (segments : List Segment)
    (bytes : List ℕ) → IsApartFrom s segments → bytes_at allows address count segments ≡ Some bytes → address ≤ x
    → x < address + count → covers x 1 s ≡ false
read_elsewhere allows address count x s [] bytes apart e low high = cc
read_elsewhere allows address count x s (t ∷ segments) bytes apart e low high =
    let serves : Bool = allows t && covers address count t in
    elim (cases_Bool serves) as (λ _. covers x 1 s ≡ false) [
      | inl serving ↦ not_both x s t apart.0 (among address count x t (and_parts (allows t) (covers address count t)
          serving).1 low high)
      | inr missing ↦ read_elsewhere allows address count x s segments bytes apart.1
          (sym (if_false serves _ _ missing) ∙ e) low high
    ]

pub read_at : (allows : Segment → Bool) (address count x : ℕ) (segments : List Segment) (bytes : List ℕ)
    → AreParted segments → bytes_at allows address count segments ≡ Some bytes → address ≤ x → x < address + count
    → byte_in segments x ≡ Some (slice_index bytes (x - address))
read_at allows address count x [] bytes apart e low high = cc
read_at allows address count x (s ∷ segments) bytes apart e low high =
    let serves : Bool = allows s && covers address count s in
    elim (cases_Bool serves) as (λ _. byte_in (s ∷ segments) x ≡ Some (slice_index bytes (x - address))) [
      | inl serving ↦ let covering : covers address count s ≡ true = (and_parts (allows s) (covers address count s)
          serving).1 in
          let at = covered address count s covering in
          let found : Some (part address count s) ≡ Some bytes = sym (if_true serves _ _ serving) ∙ e in
          let is : part address count s ≡ bytes = cc in
          let sum : (address - s.at) + (x - address) ≡ x - s.at = omega (arith, at.0) in
          let byte : slice_index (part address count s) (x - address) ≡ slice_index s.bytes (x - s.at) =
          get_or-take count (drop (address - s.at) s.bytes) (x - address) 0 (omega arith)
          ∙ get_or-drop (address - s.at) s.bytes (x - address) 0 ∙ ap (λ i. get_or s.bytes i 0) sum in
          if_true (covers x 1 s) _ _ (here address count x s covering low high)
          ∙ ap Some (sym byte ∙ ap (λ xs. slice_index xs (x - address)) is)
      | inr missing ↦ let rest : bytes_at allows address count segments ≡ Some bytes = sym (if_false serves _ _ missing)
          ∙ e in
          if_false (covers x 1 s) _ _ (read_elsewhere allows address count x s segments bytes apart.0 rest low high)
          ∙ read_at allows address count x segments bytes apart.1 rest low high
    ]

-- ---- bytes one behind the other

pub from_each : (m : MachineState) (address : ℕ) (bytes : List ℕ)
    → ((x : ℕ) → address ≤ x → x < address + length bytes
    → byte_in m.segments x ≡ Some (slice_index bytes (x - address))) → Bytes m address bytes
from_each m address [] h = tt
from_each m address (byte ∷ bytes) h =
    let first : address - address ≡ 0 = omega arith in (
      h address (omega arith) (omega arith) ∙ ap (λ i. Some (slice_index (byte ∷ bytes) i)) first,
      from_each m (address + 1) bytes
          (λ x low high.
          let next : x - address ≡ suc (x - (address + 1)) = omega arith in
          h x (omega arith) (omega arith) ∙ ap (λ i. Some (slice_index (byte ∷ bytes) i)) next),
    )

pub at_each : (m : MachineState) (address : ℕ) (bytes : List ℕ) → Bytes m address bytes → (x : ℕ) → address ≤ x
    → x < address + length bytes → byte_in m.segments x ≡ Some (slice_index bytes (x - address))
at_each m address [] there x low high = absurd (omega arith)
at_each m address (byte ∷ bytes) there x low high =
    elim (cases_eq address x) as (λ _. byte_in m.segments x ≡ Some (slice_index (byte ∷ bytes) (x - address))) [
      | inl same ↦ let first : 0 ≡ x - address = omega arith in
          ap (λ n. byte_in m.segments n) (sym same) ∙ there.0 ∙ ap (λ i. Some (slice_index (byte ∷ bytes) i)) first
      | inr other ↦ let next : suc (x - (address + 1)) ≡ x - address = omega arith in
          at_each m (address + 1) bytes there.1 x (omega arith) (omega arith)
          ∙ ap (λ i. Some (slice_index (byte ∷ bytes) i)) next
    ]

pub one_reading : (m : MachineState) (address : ℕ) (xs ys : List ℕ) → length xs ≡ length ys → Bytes m address xs
    → Bytes m address ys → xs ≡ ys
one_reading m address [] [] same a b = refl
one_reading m address [] (y ∷ ys) same a b = absurd (omega arith)
one_reading m address (x ∷ xs) [] same a b = absurd (omega arith)
one_reading m address (x ∷ xs) (y ∷ ys) same a b =
    let found : Some x ≡ Some y = sym a.0 ∙ b.0 in
    let first : x ≡ y = cc in
    let rest : xs ≡ ys = one_reading m (address + 1) xs ys (omega arith) a.1 b.1 in
    ap (λ n. n ∷ xs) first ∙ ap (λ l. y ∷ l) rest

pub split : (m : MachineState) (address : ℕ) (xs ys : List ℕ) → Bytes m address (xs ++ ys)
    → Bytes m address xs × Bytes m (address + length xs) ys
split m address [] ys there =
    let here : address ≡ address + 0 = omega arith in (tt, subst (λ n. Bytes m n ys) here there)
split m address (x ∷ xs) ys there =
    let behind = split m (address + 1) xs ys there.1 in
    let same : address + 1 + length xs ≡ address + suc (length xs) = omega arith in
    ((there.0, behind.0), subst (λ n. Bytes m n ys) same behind.1)

pub joined : (m : MachineState) (address : ℕ) (xs ys : List ℕ) → Bytes m address xs → Bytes m (address + length xs) ys
    → Bytes m address (xs ++ ys)
joined m address [] ys front back =
    let here : address + 0 ≡ address = omega arith in subst (λ n. Bytes m n ys) here back
joined m address (x ∷ xs) ys front back =
    let same : address + suc (length xs) ≡ address + 1 + length xs = omega arith in
    (front.0, joined m (address + 1) xs ys front.1 (subst (λ n. Bytes m n ys) same back))

pub read_bytes : (allows : Segment → Bool) (m : MachineState) (address count : ℕ) (bytes : List ℕ)
    → AreSegments m.segments → bytes_at allows address count m.segments ≡ Some bytes → length bytes ≡ count
    → Bytes m address bytes
read_bytes allows m address count bytes segments found size =
    from_each m address bytes
    (λ x low high. read_at allows address count x m.segments bytes (parted m.segments segments.disjoint) found low
    (omega arith))

-- ---- what is allowed

pub readable : (allows : Segment → Bool) (address count : ℕ) (segments : List Segment)
    → is_allowed allows segments address count ≡ true
    → (bytes : List ℕ) × (bytes_at allows address count segments ≡ Some bytes) × (length bytes ≡ count)
readable allows address count [] h = absurd (true≢false (sym h))
readable allows address count (s ∷ segments) h =
    let serves : Bool = allows s && covers address count s in
    elim (cases_Bool serves) as (λ _.
    (bytes : List ℕ) × (bytes_at allows address count (s ∷ segments) ≡ Some bytes) × (length bytes ≡ count)) [
      | inl serving ↦ let at = covered address count s (and_parts (allows s) (covers address count s) serving).1 in
          let size : length (part address count s) ≡ count =
          omega (
            arith,
            at.0,
            at.1,
            length-take count (drop (address - s.at) s.bytes),
            length-drop (address - s.at) s.bytes,
          ) in
          (part address count s, if_true serves _ _ serving, size)
      | inr missing ↦ let rest : is_allowed allows segments address count ≡ true =
          sym (ap (λ b. b || is_allowed allows segments address count) missing) ∙ h in
          let there = readable allows address count segments rest in
          (there.0, if_false serves _ _ missing ∙ there.1, there.2)
    ]

pub unreadable : (allows : Segment → Bool) (address count : ℕ) (segments : List Segment)
    → (is_allowed allows segments address count ≡ true → ⊥) → bytes_at allows address count segments ≡ None
unreadable allows address count [] h = refl
unreadable allows address count (s ∷ segments) h =
    let serves : Bool = allows s && covers address count s in
    elim (cases_Bool serves) as (λ _. bytes_at allows address count (s ∷ segments) ≡ None) [
      | inl serving ↦ absurd (h (ap (λ b. b || is_allowed allows segments address count) serving))
      | inr missing ↦ if_false serves _ _ missing
          ∙ unreadable allows address count segments
          (λ rest. h (ap (λ b. b || is_allowed allows segments address count) missing ∙ rest))
    ]

pub writable : (allows : Segment → Bool) (address : ℕ) (bytes : List ℕ) (segments : List Segment)
    → is_allowed allows segments address (length bytes) ≡ true
    → (new : List Segment) × (with_bytes_at allows address bytes segments ≡ Some new)
writable allows address bytes [] h = absurd (true≢false (sym h))
writable allows address bytes (s ∷ segments) h =
    let serves : Bool = allows s && covers address (length bytes) s in
    elim (cases_Bool serves) as (λ _. (new : List Segment)
    × (with_bytes_at allows address bytes (s ∷ segments) ≡ Some new)) [
      | inl serving ↦ (patched address bytes s ∷ segments, if_true serves _ _ serving)
      | inr missing ↦ let rest : is_allowed allows segments address (length bytes) ≡ true =
          sym (ap (λ b. b || is_allowed allows segments address (length bytes)) missing) ∙ h in
          let there = writable allows address bytes segments rest in
          (s ∷ there.0, if_false serves _ _ missing ∙ ap (option_map (λ others. s ∷ others)) there.1)
    ]

pub unwritable : (allows : Segment → Bool) (address : ℕ) (bytes : List ℕ) (segments : List Segment)
    → (is_allowed allows segments address (length bytes) ≡ true → ⊥)
    → with_bytes_at allows address bytes segments ≡ None
unwritable allows address bytes [] h = refl
unwritable allows address bytes (s ∷ segments) h =
    let serves : Bool = allows s && covers address (length bytes) s in
    elim (cases_Bool serves) as (λ _. with_bytes_at allows address bytes (s ∷ segments) ≡ None) [
      | inl serving ↦ absurd (h (ap (λ b. b || is_allowed allows segments address (length bytes)) serving))
      | inr missing ↦ if_false serves _ _ missing
          ∙ ap (option_map (λ others. s ∷ others))
          (unwritable allows address bytes segments
          (λ rest. h (ap (λ b. b || is_allowed allows segments address (length bytes)) missing ∙ rest)))
    ]

pub allowed_within : (allows : Segment → Bool) (address count first some : ℕ) (segments : List Segment)
    → address ≤ first
    → first + some ≤ address + count → is_allowed allows segments address count ≡ true
    → is_allowed allows segments first some ≡ true
allowed_within allows address count first some [] low high h = absurd (true≢false (sym h))
allowed_within allows address count first some (s ∷ segments) low high h =
    let serves : Bool = allows s && covers address count s in
    let serves' : Bool = allows s && covers first some s in
    elim (cases_Bool serves') as (λ _. is_allowed allows (s ∷ segments) first some ≡ true) [
      | inl serving ↦ ap (λ b. b || is_allowed allows segments first some) serving
      | inr missing ↦ elim (cases_Bool serves) as (λ _. is_allowed allows (s ∷ segments) first some ≡ true) [
        | inl all ↦ let both = and_parts (allows s) (covers address count s) all in
            let at = covered address count s both.1 in
            absurd (true≢false (sym (and_from _ _ both.0
            (covers_by first some s (omega (arith, at.0)) (omega (arith, at.1)))) ∙ missing))
        | inr none ↦ let rest : is_allowed allows segments address count ≡ true =
            sym (ap (λ b. b || is_allowed allows segments address count) none) ∙ h in
            ap (λ b. b || is_allowed allows segments first some) missing
            ∙ allowed_within allows address count first some segments low high rest
      ]
    ]

-- ---- writing

index_before : (from : ℕ) (new old : List ℕ) (i : ℕ) → from + length new ≤ length old → i < from
    → slice_index (overwritten from new old) i ≡ slice_index old i
index_before from new old i room lt =
    let size : length (take from old) ≡ from = omega (arith, length-take from old) in
    get_or_append_left (take from old ++ new) (drop (from + length new) old) 0 i
    (omega (arith, size, length-append (take from old) new))
    ∙ get_or_append_left (take from old) new 0 i (omega (arith, size)) ∙ get_or-take from old i 0 lt

index_inside : (from : ℕ) (new old : List ℕ) (i : ℕ) → from + length new ≤ length old → from ≤ i
    → i < from + length new → slice_index (overwritten from new old) i ≡ slice_index new (i - from)
index_inside from new old i room low high =
    let size : length (take from old) ≡ from = omega (arith, length-take from old) in
    get_or_append_left (take from old ++ new) (drop (from + length new) old) 0 i
    (omega (arith, size, length-append (take from old) new))
    ∙ get_or-append_right (take from old) new from i 0 size low

index_behind : (from : ℕ) (new old : List ℕ) (i : ℕ) → from + length new ≤ length old → from + length new ≤ i
    → slice_index (overwritten from new old) i ≡ slice_index old i
index_behind from new old i room low =
    let size : length (take from old ++ new) ≡ from + length new =
    omega (arith, length-take from old, length-append (take from old) new) in
    let sum : from + length new + (i - (from + length new)) ≡ i = omega arith in
    get_or-append_right (take from old ++ new) (drop (from + length new) old) (from + length new) i 0 size low
    ∙ get_or-drop (from + length new) old (i - (from + length new)) 0 ∙ ap (λ k. get_or old k 0) sum

-- a segment with bytes written into it is where it was
same_size : (address : ℕ) (bytes : List ℕ) (s : Segment) → covers address (length bytes) s ≡ true
    → length (patched address bytes s).bytes ≡ length s.bytes
same_size address bytes s h = let at = covered address (length bytes) s h in
    length_overwritten (address - s.at) bytes s.bytes (omega (arith, at.0, at.1))

covers_same : (address : ℕ) (bytes : List ℕ) (s : Segment) → covers address (length bytes) s ≡ true
    → (other count : ℕ) → covers other count (patched address bytes s) ≡ covers other count s
covers_same address bytes s h other count =
    ap (λ n. nat_le s.at other && nat_le (other + count) (s.at + n)) (same_size address bytes s h)

written_elsewhere : (allows : Segment → Bool) (address x : ℕ) (bytes : List ℕ) (s : Segment)
    (segments new : List Segment) → IsApartFrom s segments → with_bytes_at allows address bytes segments ≡ Some new
    → address ≤ x → x < address + length bytes → covers x 1 s ≡ false
written_elsewhere allows address x bytes s [] new apart e low high = cc
written_elsewhere allows address x bytes s (t ∷ segments) new apart e low high =
    let serves : Bool = allows t && covers address (length bytes) t in
    elim (cases_Bool serves) as (λ _. covers x 1 s ≡ false) [
      | inl serving ↦ not_both x s t apart.0 (among address (length bytes) x t
          (and_parts (allows t) (covers address (length bytes) t) serving).1 low high)
      | inr missing ↦ let rest = mapped_some (λ others. t ∷ others) (with_bytes_at allows address bytes segments) new
          (sym (if_false serves _ _ missing) ∙ e) in
          written_elsewhere allows address x bytes s segments rest.0 apart.1 rest.1 low high
    ]

pub written_at : (allows : Segment → Bool) (address x : ℕ) (bytes : List ℕ) (segments new : List Segment)
    → AreParted segments → with_bytes_at allows address bytes segments ≡ Some new → address ≤ x
    → x < address + length bytes → byte_in new x ≡ Some (slice_index bytes (x - address))
written_at allows address x bytes [] new apart e low high = cc
written_at allows address x bytes (s ∷ segments) new apart e low high =
    let serves : Bool = allows s && covers address (length bytes) s in
    elim (cases_Bool serves) as (λ _. byte_in new x ≡ Some (slice_index bytes (x - address))) [
      | inl serving ↦ let covering : covers address (length bytes) s ≡ true =
          (and_parts (allows s) (covers address (length bytes) s) serving).1 in
          let at = covered address (length bytes) s covering in
          let found : Some (patched address bytes s ∷ segments) ≡ Some new = sym (if_true serves _ _ serving) ∙ e in
          let is : patched address bytes s ∷ segments ≡ new = cc in
          let there : covers x 1 (patched address bytes s) ≡ true =
          covers_same address bytes s covering x 1 ∙ here address (length bytes) x s covering low high in
          let place : x - s.at - (address - s.at) ≡ x - address = omega (arith, at.0) in
          let byte : slice_index (overwritten (address - s.at) bytes s.bytes) (x - s.at)
          ≡ slice_index bytes (x - address) =
          index_inside (address - s.at) bytes s.bytes (x - s.at) (omega (arith, at.0, at.1)) (omega (arith, at.0))
          (omega (arith, at.0)) ∙ ap (λ i. slice_index bytes i) place in
          ap (λ l. byte_in l x) (sym is) ∙ if_true (covers x 1 (patched address bytes s)) _ _ there ∙ ap Some byte
      | inr missing ↦ let rest = mapped_some (λ others. s ∷ others) (with_bytes_at allows address bytes segments) new
          (sym (if_false serves _ _ missing) ∙ e) in
          ap (λ l. byte_in l x) (sym rest.2)
          ∙ if_false (covers x 1 s) _ _
          (written_elsewhere allows address x bytes s segments rest.0 apart.0 rest.1 low high)
          ∙ written_at allows address x bytes segments rest.0 apart.1 rest.1 low high
    ]

pub kept_at : (allows : Segment → Bool) (address x : ℕ) (bytes : List ℕ) (segments new : List Segment)
    → with_bytes_at allows address bytes segments ≡ Some new → (x < address) ⊎ (address + length bytes ≤ x)
    → byte_in new x ≡ byte_in segments x
kept_at allows address x bytes [] new e apart = cc
kept_at allows address x bytes (s ∷ segments) new e apart =
    let serves : Bool = allows s && covers address (length bytes) s in
    elim (cases_Bool serves) as (λ _. byte_in new x ≡ byte_in (s ∷ segments) x) [
      | inl serving ↦ let covering : covers address (length bytes) s ≡ true =
          (and_parts (allows s) (covers address (length bytes) s) serving).1 in
          let at = covered address (length bytes) s covering in
          let room : (address - s.at) + length bytes ≤ length s.bytes = omega (arith, at.0, at.1) in
          let found : Some (patched address bytes s ∷ segments) ≡ Some new = sym (if_true serves _ _ serving) ∙ e in
          let is : patched address bytes s ∷ segments ≡ new = cc in
          let same : covers x 1 (patched address bytes s) ≡ covers x 1 s = covers_same address bytes s covering x 1 in
          let byte : s.at ≤ x → slice_index (overwritten (address - s.at) bytes s.bytes) (x - s.at)
          ≡ slice_index s.bytes (x - s.at) =
          λ low. elim apart as (λ _. slice_index (overwritten (address - s.at) bytes s.bytes) (x - s.at)
          ≡ slice_index s.bytes (x - s.at)) [
            | inl before ↦ index_before (address - s.at) bytes s.bytes (x - s.at) room (omega (arith, at.0))
            | inr behind ↦ index_behind (address - s.at) bytes s.bytes (x - s.at) room (omega (arith, at.0))
          ] in
          ap (λ l. byte_in l x) (sym is)
          ∙ cond_same _ _ _ _ _ _ same (λ serving'. ap Some (byte (inside x s (sym same ∙ serving')).0)) refl
      | inr missing ↦ let rest = mapped_some (λ others. s ∷ others) (with_bytes_at allows address bytes segments) new
          (sym (if_false serves _ _ missing) ∙ e) in
          ap (λ l. byte_in l x) (sym rest.2)
          ∙ cond_same (covers x 1 s) (covers x 1 s) _ _ _ _ refl (λ serving'. refl)
          (kept_at allows address x bytes segments rest.0 rest.1 apart)
    ]

allowed_same : (allows right : Segment → Bool) (address : ℕ) (bytes : List ℕ) (segments new : List Segment)
    → ((s : Segment) → right (patched address bytes s) ≡ right s)
    → with_bytes_at allows address bytes segments ≡ Some new
    → (other count : ℕ) → is_allowed right new other count ≡ is_allowed right segments other count
allowed_same allows right address bytes [] new stays e other count = cc
allowed_same allows right address bytes (s ∷ segments) new stays e other count =
    let serves : Bool = allows s && covers address (length bytes) s in
    elim (cases_Bool serves) as (λ _. is_allowed right new other count ≡ is_allowed right (s ∷ segments) other count) [
      | inl serving ↦ let found : Some (patched address bytes s ∷ segments) ≡ Some new =
          sym (if_true serves _ _ serving) ∙ e in
          let is : patched address bytes s ∷ segments ≡ new = cc in
          ap (λ l. is_allowed right l other count) (sym is)
          ∙ ap (λ b. (b && covers other count (patched address bytes s)) || is_allowed right segments other count)
          (stays s)
          ∙ ap (λ b. (right s && b) || is_allowed right segments other count)
          (covers_same address bytes s (and_parts (allows s) (covers address (length bytes) s) serving).1 other count)
      | inr missing ↦ let rest = mapped_some (λ others. s ∷ others) (with_bytes_at allows address bytes segments) new
          (sym (if_false serves _ _ missing) ∙ e) in
          ap (λ l. is_allowed right l other count) (sym rest.2)
          ∙ ap (λ b. (right s && covers other count s) || b)
          (allowed_same allows right address bytes segments rest.0 stays rest.1 other count)
    ]

-- where a segment lies
abbrev place : Segment → ℕ × ℕ
place s = (s.at, length s.bytes)

places_same : (allows : Segment → Bool) (address : ℕ) (bytes : List ℕ) (segments new : List Segment)
    → with_bytes_at allows address bytes segments ≡ Some new → map place new ≡ map place segments
places_same allows address bytes [] new e = cc
places_same allows address bytes (s ∷ segments) new e =
    let serves : Bool = allows s && covers address (length bytes) s in
    elim (cases_Bool serves) as (λ _. map place new ≡ map place (s ∷ segments)) [
      | inl serving ↦ let found : Some (patched address bytes s ∷ segments) ≡ Some new =
          sym (if_true serves _ _ serving) ∙ e in
          let is : patched address bytes s ∷ segments ≡ new = cc in
          ap (map place) (sym is)
          ∙ ap (λ n. (s.at, n) ∷ map place segments)
          (same_size address bytes s (and_parts (allows s) (covers address (length bytes) s) serving).1)
      | inr missing ↦ let rest = mapped_some (λ others. s ∷ others) (with_bytes_at allows address bytes segments) new
          (sym (if_false serves _ _ missing) ∙ e) in
          ap (map place) (sym rest.2)
          ∙ ap (λ l. place s ∷ l) (places_same allows address bytes segments rest.0 rest.1)
    ]

place_at : (segments : List Segment) (i : ℕ) (d : Segment)
    → get_or (map place segments) i (place d) ≡ place (get_or segments i d)
place_at [] i d = refl
place_at (s ∷ segments) zero d = refl
place_at (s ∷ segments) (suc i) d = place_at segments i d

same_place : (segments new : List Segment) → map place new ≡ map place segments → (i : ℕ) (d : Segment)
    → place (get_or new i d) ≡ place (get_or segments i d)
same_place segments new same i d =
    sym (place_at new i d) ∙ ap (λ l. get_or l i (place d)) same ∙ place_at segments i d

holds_same : (x : ℕ) (s t : Segment) → place s ≡ place t → Holds x s → Holds x t
holds_same x s t same there =
    let at : s.at ≡ t.at = ap (λ p. p.0) same in
    let size : length s.bytes ≡ length t.bytes = ap (λ p. p.1) same in
    (omega (arith, at, there.0), omega (arith, at, size, there.1))

segments_by : (segments new : List Segment) → map place new ≡ map place segments → AreSegments segments
    → AreSegments new
segments_by segments new same h =
    let count : length new ≡ length segments = sym (length-map new place) ∙ ap length same
    ∙ length-map segments place in
    record {
      disjoint = λ i j d lt within. λ x in_s in_t.
          h.disjoint i j d lt (omega (arith, count)) x (holds_same x (get_or new i d) (get_or segments i d)
          (same_place segments new same i d) in_s)
          (holds_same x (get_or new j d) (get_or segments j d) (same_place segments new same j d) in_t);
      within = λ k d lt.
          let is = same_place segments new same k d in
          let at : (get_or new k d).at ≡ (get_or segments k d).at = ap (λ p. p.0) is in
          let size : length (get_or new k d).bytes ≡ length (get_or segments k d).bytes = ap (λ p. p.1) is in
          let fits = h.within k d (omega (arith, count)) in
          omega (arith, at, size, fits);
    }

pub allows_the_same : (allows : Segment → Bool) (address : ℕ) (bytes : List ℕ) (old new : MachineState)
    → with_bytes_at allows address bytes old.segments ≡ Some new.segments → (other count : ℕ)
    → AllowsTheSame old new other count
allows_the_same allows address bytes old new e other count =
    record {
      read = allowed_same allows (λ s. s.read) address bytes old.segments new.segments (λ s. refl) e other count;
      write = allowed_same allows (λ s. s.write) address bytes old.segments new.segments (λ s. refl) e other count;
      execute = allowed_same allows (λ s. s.execute) address bytes old.segments new.segments (λ s. refl) e other count;
    }

pub segments_kept : (allows : Segment → Bool) (address : ℕ) (bytes : List ℕ) (segments new : List Segment)
    → with_bytes_at allows address bytes segments ≡ Some new → AreSegments segments → AreSegments new
segments_kept allows address bytes segments new e h =
    segments_by segments new (places_same allows address bytes segments new e) h

pub written_bytes : (allows : Segment → Bool) (address : ℕ) (bytes : List ℕ) (old new : MachineState)
    → AreSegments old.segments → with_bytes_at allows address bytes old.segments ≡ Some new.segments
    → Bytes new address bytes
written_bytes allows address bytes old new segments e =
    from_each new address bytes
    (λ x low high. written_at allows address x bytes old.segments new.segments
    (parted old.segments segments.disjoint) e low high)

-- an address of one of two ranges that are apart lies before or behind the other
pub before_or_behind : (address count other size x : ℕ) → AreApart address count other size → other ≤ x
    → x < other + size
    → (x < address) ⊎ (address + count ≤ x)
before_or_behind address count other size x (inl behind) low high = inr (omega arith)
before_or_behind address count other size x (inr before) low high = inl (omega arith)

pub writes_by : (allows : Segment → Bool) (address : ℕ) (bytes : List ℕ) (old new : MachineState)
    → AreSegments old.segments → with_bytes_at allows address bytes old.segments ≡ Some new.segments
    → Writes address bytes old new
writes_by allows address bytes old new segments e =
    record {
      written = written_bytes allows address bytes old new segments e;
      kept = λ other others apart there. from_each new other others (λ x low high.
          kept_at allows address x bytes old.segments new.segments e
          (before_or_behind address (length bytes) other (length others) x apart low high)
          ∙ at_each old other others there x low high);
      allows = allows_the_same allows address bytes old new e;
      segments = segments_kept allows address bytes old.segments new.segments e segments;
    }
