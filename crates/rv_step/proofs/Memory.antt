-- What the first segment that serves an access gives.
use Rattle.std.proofs.Common.{◌≡◌, ◌∙◌, ℕ, zero, suc, ◌+◌, ◌<◌, ◌≤◌, Bool, true, false, cond, not, nat_lt, ◌&&◌, List}
use Rattle.std.proofs.Common.{[], ◌∷◌, length, take, get_or, Option, Some, None, refl, ap, sym, arith}
use Rattle.std.proofs.lemmas.Bool.Decides.{nat_tests}
use Rattle.std.proofs.Math.ListN.{set}
use Rattle.std.proofs.lemmas.List.Quantifiers.{position-Some}
use Rattle.std.specs.Int.{bytes_low_first, byte_at}
use Rattle.std.specs.Option.{option_map}
use Rattle.std.specs.List.{find, position, position_or_len}
use Rattle.rv_step.specs.Machine.{bytes_at, covers, with_bytes_at}
use Rattle.rv_step.specs.Segments.{grants, serves, part, patched}
use Rattle.rv_step.specs.declared.segment.Segment.{Segment}
use Rattle.rv_step.specs.declared.segment.Access.{Access}

cond_map : (b : Bool) (f : Segment → List ℕ) (s : Segment) (o : Option Segment)
    → cond b (Some (f s)) (option_map f o) ≡ option_map f (cond b (Some s) o)
cond_map true f s o = refl
cond_map false f s o = refl

pub bytes_at-find : (access : Access) (address count : ℕ) (segments : List Segment)
    → bytes_at (grants access) address count segments
    ≡ option_map (part address count) (find (serves access address count) segments)
bytes_at-find access address count [] = refl
bytes_at-find access address count (s ∷ segments) =
    ap (λ o. cond (serves access address count s) (Some (part address count s)) o)
    (bytes_at-find access address count segments)
    ∙ cond_map (serves access address count s) (part address count) s (find (serves access address count) segments)

found_here : (b : Bool) (x y : Segment) (o : Option Segment) (p : Segment → Bool) → p x ≡ b → (o ≡ Some y → p y ≡ true)
    → cond b (Some x) o ≡ Some y → p y ≡ true
found_here true x y o p here others e = let same : x ≡ y = cc in ap p (sym same) ∙ here
found_here false x y o p here others e = others e

-- what is found passes
pub found : (p : Segment → Bool) (segments : List Segment) (s : Segment) → find p segments ≡ Some s → p s ≡ true
found p [] s e = cc
found p (x ∷ segments) s e = found_here (p x) x s (find p segments) p refl (found p segments s) e

bytes_at_place : (allows : Segment → Bool) (address count : ℕ) (d : Segment) (segments : List Segment) (i : ℕ)
    → i < length segments → allows (get_or segments i d) && covers address count (get_or segments i d) ≡ true
    → ((k : ℕ) → k < i → allows (get_or segments k d) && covers address count (get_or segments k d) ≡ false)
    → bytes_at allows address count segments ≡ Some (part address count (get_or segments i d))
bytes_at_place allows address count d [] i lt here before = absurd (omega arith)
bytes_at_place allows address count d (s ∷ segments) zero lt here before =
    ap (λ b. cond b (Some (part address count s)) (bytes_at allows address count segments)) here
bytes_at_place allows address count d (s ∷ segments) (suc i) lt here before =
    ap (λ b. cond b (Some (part address count s)) (bytes_at allows address count segments)) (before 0 (omega arith))
    ∙ bytes_at_place allows address count d segments i (omega arith) here (λ k h. before (suc k) (omega arith))

pub bytes_at_some : (access : Access) (address count : ℕ) (d : Segment) (segments : List Segment) (i : ℕ)
    → position (serves access address count) segments ≡ Some i
    → bytes_at (grants access) address count segments ≡ Some (part address count (get_or segments i d))
bytes_at_some access address count d segments i is =
    let at : (i < length segments) × (serves access address count (get_or segments i d) ≡ true)
    × ((k : ℕ) → k < i → serves access address count (get_or segments k d) ≡ false) =
    position-Some (serves access address count) segments i d is in
    bytes_at_place (grants access) address count d segments i at.0 at.1 at.2

no_bytes_here : (b : Bool) (n len : ℕ) (x : List ℕ) (others : Option (List ℕ)) → suc len ≤ cond (not b) (1 + n) 0
    → (len ≤ n → others ≡ None) → cond b (Some x) others ≡ None
no_bytes_here true n len x others past rest = absurd (omega arith)
no_bytes_here false n len x others past rest = rest (omega arith)

no_bytes : (access : Access) (address count : ℕ) (segments : List Segment)
    → length segments ≤ position_or_len (serves access address count) segments
    → bytes_at (grants access) address count segments ≡ None
no_bytes access address count [] past = refl
no_bytes access address count (s ∷ segments) past =
    no_bytes_here (serves access address count s) (position_or_len (serves access address count) segments)
    (length segments) (part address count s) (bytes_at (grants access) address count segments) past
    (no_bytes access address count segments)

-- ---- writing

pub with_bytes_at_place : (allows : Segment → Bool) (address : ℕ) (bytes : List ℕ) (d : Segment)
    (segments : List Segment) (i : ℕ) → i < length segments
    → allows (get_or segments i d) && covers address (length bytes) (get_or segments i d) ≡ true
    → ((k : ℕ) → k < i → allows (get_or segments k d) && covers address (length bytes) (get_or segments k d) ≡ false)
    → with_bytes_at allows address bytes segments ≡ Some (set segments i (patched address bytes (get_or segments i d)))
with_bytes_at_place allows address bytes d [] i lt here before = absurd (omega arith)
with_bytes_at_place allows address bytes d (s ∷ segments) zero lt here before =
    ap (λ b. cond b (Some (patched address bytes s ∷ segments))
    (option_map (λ others. s ∷ others) (with_bytes_at allows address bytes segments))) here
with_bytes_at_place allows address bytes d (s ∷ segments) (suc i) lt here before =
    ap (λ b. cond b (Some (patched address bytes s ∷ segments))
    (option_map (λ others. s ∷ others) (with_bytes_at allows address bytes segments))) (before 0 (omega arith))
    ∙ ap (option_map (λ others. s ∷ others))
    (with_bytes_at_place allows address bytes d segments i (omega arith) here (λ k h. before (suc k) (omega arith)))

none_here : (b : Bool) (n len : ℕ) (x : List Segment) (s : Segment) (others : Option (List Segment))
    → suc len ≤ cond (not b) (1 + n) 0 → (len ≤ n → others ≡ None)
    → cond b (Some x) (option_map (λ rest. s ∷ rest) others) ≡ None
none_here true n len x s others past rest = absurd (omega arith)
none_here false n len x s others past rest = ap (option_map (λ more. s ∷ more)) (rest (omega arith))

past_all : (access : Access) (address : ℕ) (bytes : List ℕ) (segments : List Segment)
    → length segments ≤ position_or_len (serves access address (length bytes)) segments
    → with_bytes_at (grants access) address bytes segments ≡ None
past_all access address bytes [] past = refl
past_all access address bytes (s ∷ segments) past =
    none_here (serves access address (length bytes) s) (position_or_len (serves access address (length bytes)) segments)
    (length segments) _ s (with_bytes_at (grants access) address bytes segments) past
    (past_all access address bytes segments)

past_when_none : (n len : ℕ) → cond (nat_lt n len) (Some n) None ≡ None → len ≤ n
past_when_none n len h = grind (arith, nat_tests)

pub with_bytes_at_none : (access : Access) (address : ℕ) (bytes : List ℕ) (segments : List Segment)
    → position (serves access address (length bytes)) segments ≡ None
    → with_bytes_at (grants access) address bytes segments ≡ None
with_bytes_at_none access address bytes segments none =
    past_all access address bytes segments
    (past_when_none (position_or_len (serves access address (length bytes)) segments) (length segments) none)

pub bytes_at_none : (access : Access) (address count : ℕ) (segments : List Segment)
    → position (serves access address count) segments ≡ None → bytes_at (grants access) address count segments ≡ None
bytes_at_none access address count segments none =
    no_bytes access address count segments
    (past_when_none (position_or_len (serves access address count) segments) (length segments) none)

pub with_bytes_at_some : (access : Access) (address : ℕ) (bytes : List ℕ) (d : Segment) (segments : List Segment)
    (i : ℕ) → position (serves access address (length bytes)) segments ≡ Some i
    → with_bytes_at (grants access) address bytes segments
    ≡ Some (set segments i (patched address bytes (get_or segments i d)))
with_bytes_at_some access address bytes d segments i is =
    let at : (i < length segments) × (serves access address (length bytes) (get_or segments i d) ≡ true)
    × ((k : ℕ) → k < i → serves access address (length bytes) (get_or segments k d) ≡ false) =
    position-Some (serves access address (length bytes)) segments i d is in
    with_bytes_at_place (grants access) address bytes d segments i at.0 at.1 at.2

-- the segment at the place found serves
pub served : (access : Access) (address count : ℕ) (d : Segment) (segments : List Segment) (i : ℕ)
    → position (serves access address count) segments ≡ Some i → covers address count (get_or segments i d) ≡ true
served access address count d segments i is =
    let at : (i < length segments) × (serves access address count (get_or segments i d) ≡ true)
    × ((k : ℕ) → k < i → serves access address count (get_or segments k d) ≡ false) =
    position-Some (serves access address count) segments i d is in
    grind (arith, nat_tests)

pub covered : (address count : ℕ) (s : Segment) → covers address count s ≡ true
    → (s.at ≤ address) × (address + count ≤ s.at + length s.bytes)
covered address count s h =
    let first : s.at ≤ address = grind (arith, nat_tests) in
    let last : address + count ≤ s.at + length s.bytes = grind (arith, nat_tests) in
    (first, last)

-- the first of the bytes of a number
pub take_bytes : (n k i x : ℕ) → n ≤ k → take n (bytes_low_first i k x) ≡ bytes_low_first i n x
take_bytes zero k i x h = refl
take_bytes (suc n) zero i x h = absurd (omega arith)
take_bytes (suc n) (suc k) i x h = ap (λ bytes. byte_at i x ∷ bytes) (take_bytes n k (suc i) x (omega arith))

pub ruleset memory = (bytes_at-find, found)
