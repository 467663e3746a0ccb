-- What a table over offsets tells of those to which control comes.
use Rattle.std.proofs.Common.{◌≡◌, ◌⊎◌, inl, inr, ◌∙◌, ℕ, zero, suc, ◌+◌, ◌-◌, ◌<◌, ◌≤◌, Bool, true, false, cond}
use Rattle.std.proofs.Common.{nat_eq, nat_le, eq-eqb, List, [], ◌∷◌, length, map, find, All, Contains}
use Rattle.std.proofs.Common.{slice_index_or, slice_index, slice_get, Result, Ok, Err, IfOk}
use Rattle.std.proofs.Common.{Option, Some, None, is_some, ◌&&◌, refl, ap, sym, subst, arith}
use Rattle.std.specs.List.{list_any}
use Rattle.std.specs.List.Sorted.{IsStrictlyIncreasing}
use Rattle.std.specs.Option.{option_map}
use Rattle.std.proofs.lemmas.Bool.{and_from, and_parts, eqb-true, le-leb, leb-true}
use Rattle.std.proofs.lemmas.List.Folds.{Any-from_list_any, list_any_at}
use Rattle.std.proofs.lemmas.List.Elements.{All-contains, All-contains_itself, All-cons, All-head, All-nil, All-tail}
use Rattle.std.proofs.lemmas.List.Elements.{All-map, All-weaker}
use Rattle.least_flow.specs.Solution.{row, IsRowBelow, IsSolution, IsLeast, AreTold}
use Rattle.il_code.specs.Listing.{AreRising}
use Rattle.il_code.specs.Marks.{fact_of, is_past, known_from}
use Rattle.il_code.specs.Reach.{AreReached, IsClosed, Leads, RunsPastEnd, end_of}
use Rattle.il_code.specs.Reach.{falls_through, leads_of}
use Rattle.il_code.specs.declared.body.Clause.{Clause}
use Rattle.il_code.specs.declared.body.Instr.{Instr}

-- ---- what is passed on

same-default : {X : Type 0} (xs : List X) (n : ℕ) (d e : X) → n < length xs
    → slice_index_or xs n d ≡ slice_index_or xs n e
same-default [] n d e h = absurd (omega (arith, h))
same-default (x ∷ xs) zero d e h = refl
same-default (x ∷ xs) (suc n) d e h = same-default xs n d e (omega (arith, h))

inside-or-past : (p end : ℕ) → (p < end) ⊎ (end ≤ p)
inside-or-past p end = grind arith

before-behind : (n m : ℕ) → (n ≡ m) ⊎ ((n < m) ⊎ (m < n))
before-behind n m = grind arith

-- where offsets rise, the instruction at one is the only one there
only_one : (instrs : List Instr) (n m : ℕ) (i j : Instr) → AreRising instrs → n < length instrs → m < length instrs
    → slice_index_or instrs n i ≡ i → slice_index_or instrs m j ≡ j → i.at ≡ j.at → i ≡ j
only_one instrs n m i j rising inside inside' is is' same = elim (before-behind n m) [
  | inl e ↦ sym is ∙ (same-default instrs n i j inside ∙ (ap (λ k. slice_index_or instrs k j) e ∙ is'))
  | inr less ↦ elim less [
    | inl before ↦
        let higher : (slice_index_or instrs n i).at < (slice_index_or instrs m i).at = rising n m i before inside' in
        let at-n : (slice_index_or instrs n i).at ≡ i.at = ap (λ (x : Instr). x.at) is in
        let at-m : (slice_index_or instrs m i).at ≡ j.at = ap (λ (x : Instr). x.at)
        (same-default instrs m i j inside' ∙ is') in
        absurd (omega (arith, higher, at-n, at-m, same))
    | inr behind ↦
        let higher : (slice_index_or instrs m i).at < (slice_index_or instrs n i).at = rising m n i behind inside in
        let at-n : (slice_index_or instrs n i).at ≡ i.at = ap (λ (x : Instr). x.at) is in
        let at-m : (slice_index_or instrs m i).at ≡ j.at = ap (λ (x : Instr). x.at)
        (same-default instrs m i j inside' ∙ is') in
        absurd (omega (arith, higher, at-n, at-m, same))
  ]
]

unmapped : {X Y : Type 0} (P : Y → Type 0) (f : X → Y) (xs : List X) → All P (map f xs) → All (λ x. P (f x)) xs
unmapped P f [] h = All-nil _
unmapped P f (x ∷ xs) h =
    All-cons (λ x. P (f x)) x xs (All-head P (f x) (map f xs) h) (unmapped P f xs (All-tail P (f x) (map f xs) h))

comes-in : (xs : List ℕ) (to : ℕ) → Contains xs to → Contains (map fact_of xs) (fact_of to)
comes-in xs to h =
    All-contains (λ x. Contains (map fact_of xs) (fact_of x)) xs to
    (unmapped (Contains (map fact_of xs)) fact_of xs (All-contains_itself (map fact_of xs))) h

comes-from : (xs : List ℕ) (to : ℕ) (fact : Unit {0}) → Contains (map fact_of xs) (to, fact) → Contains xs to
comes-from xs to fact h =
    All-contains (λ (f : ℕ × Unit {0}). Contains xs f.0) (map fact_of xs) (to, fact)
    (All-map (λ (f : ℕ × Unit {0}). Contains xs f.0) fact_of xs (All-contains_itself xs)) h

-- what is passed on from an offset, where the instruction of this number stands there
pub told_here : (instrs : List Instr) (clauses : List Clause) (place n : ℕ) (facts : List (ℕ × Unit {0})) (i : Instr)
    → AreRising instrs → n < length instrs → slice_index_or instrs n i ≡ i → i.at ≡ place
    → facts ≡ map fact_of (leads_of clauses i)
    → AreTold (λ a b. Unit {0}) (λ to fact. Leads instrs clauses place to) facts
told_here instrs clauses place n facts i rising inside is at e =
    record {
      all = λ to fact leads.
          let same : leads.0 ≡ i =
          only_one instrs leads.1.0 n leads.0 i rising leads.1.1 inside leads.1.2 is (leads.2 ∙ sym at) in
          let there : Contains (leads_of clauses i) to = subst (λ j. Contains (leads_of clauses j) to) same leads.3 in
          (tt, subst (λ l. Contains l (to, tt)) (sym e) (comes-in (leads_of clauses i) to there), tt);
      only = λ to given h. (
        tt,
        (
          i,
          (n, inside, is),
          at,
          comes-from (leads_of clauses i) to given
              (subst (λ l. Contains l (to, given)) e h),
        ),
        tt,
      );
    }

-- where no instruction stands, nothing is passed on
pub told_nothing : (instrs : List Instr) (clauses : List Clause) (place : ℕ) → All (λ i. ¬ (i.at ≡ place)) instrs
    → AreTold (λ (a b : Unit {0}). Unit {0}) (λ to fact. Leads instrs clauses place to) []
told_nothing instrs clauses place none =
    record {
      all = λ to fact leads. absurd (All-contains (λ i. ¬ (i.at ≡ place)) instrs leads.0 none leads.1 leads.2);
      only = λ to given h. absurd (omega (arith, h.1));
    }

-- ---- the offsets that a table tells

-- the offset behind the last instruction
pub last_end : (instrs : List Instr) (last : Instr) → slice_get instrs (length instrs - 1) ≡ Some last
    → last.next ≡ end_of instrs
last_end [] last h = cc
last_end (i ∷ []) last h = let e : Some i ≡ Some last = h in let same : i ≡ last = cc in ap (λ (x : Instr). x.next)
    (sym same)
last_end (i ∷ j ∷ rest) last h =
    let e : suc (suc (length rest)) - 1 ≡ suc (suc (length rest) - 1) = omega arith in
    last_end (j ∷ rest) last (sym (ap (slice_get (i ∷ j ∷ rest)) e) ∙ h)

contains-behind : {X : Type 0} (y : X) (xs : List X) (x : X) → Contains xs x → Contains (y ∷ xs) x
contains-behind y xs x h = (suc h.0, (let less : h.0 < length xs = h.1 in omega (arith, less)), h.2)

known-in : (place : ℕ) (table : List (Option (Unit {0}))) (p : ℕ) (fact : Unit {0}) → row table p ≡ Some fact
    → Contains (known_from place table) (place + p)
known-in place [] p fact h = cc
known-in place (None ∷ table) zero fact h = cc
known-in place (None ∷ table) (suc p) fact h =
    let e : place + 1 + p ≡ place + suc p = omega arith in
    subst (Contains (known_from (place + 1) table)) e (known-in (place + 1) table p fact h)
known-in place (Some u ∷ table) zero fact h = (0, omega arith, (let e : place ≡ place + 0 = omega arith in e))
known-in place (Some u ∷ table) (suc p) fact h =
    let e : place + 1 + p ≡ place + suc p = omega arith in
    contains-behind place (known_from (place + 1) table) (place + suc p)
    (subst (Contains (known_from (place + 1) table)) e (known-in (place + 1) table p fact h))

-- a row of the table has a fact
abbrev IsKnown : List (Option (Unit {0})) → ℕ → ℕ → Type 0
IsKnown table place offset = (p : ℕ) × (offset ≡ place + p) × (fact : Unit {0}) × (row table p ≡ Some fact)

known-out : (place : ℕ) (table : List (Option (Unit {0}))) → All (IsKnown table place) (known_from place table)
known-out place [] = All-nil _
known-out place (None ∷ table) =
    All-weaker (IsKnown table (place + 1)) (IsKnown (None ∷ table) place)
    (λ o h. (suc h.0, (let e : o ≡ place + 1 + h.0 = h.1 in omega (arith, e)), h.2, h.3))
    (known_from (place + 1) table) (known-out (place + 1) table)
known-out place (Some u ∷ table) =
    All-cons (IsKnown (Some u ∷ table) place) place (known_from (place + 1) table)
    (0, (let e : place ≡ place + 0 = omega arith in e), u, refl)
    (All-weaker (IsKnown table (place + 1)) (IsKnown (Some u ∷ table) place)
    (λ o h. (suc h.0, (let e : o ≡ place + 1 + h.0 = h.1 in omega (arith, e)), h.2, h.3))
    (known_from (place + 1) table) (known-out (place + 1) table))

-- ---- the table of a set of offsets

abbrev mark : List ℕ → ℕ → Option (Unit {0})
mark other place = cond (list_any (λ x. nat_eq x place) other) (Some tt) None

abbrev marks : List ℕ → ℕ → ℕ → List (Option (Unit {0}))
marks other place zero = []
marks other place (suc n) = mark other place ∷ marks other (place + 1) n

length-marks : (other : List ℕ) (place n : ℕ) → length (marks other place n) ≡ n
length-marks other place zero = refl
length-marks other place (suc n) = ap suc (length-marks other (place + 1) n)

row-marks : (other : List ℕ) (place n p : ℕ) → p < n → row (marks other place n) p ≡ mark other (place + p)
row-marks other place zero p h = absurd (omega (arith, h))
row-marks other place (suc n) zero h = ap (mark other) (let e : place ≡ place + 0 = omega arith in e)
row-marks other place (suc n) (suc p) h =
    row-marks other (place + 1) n p (omega (arith, h))
    ∙ ap (mark other) (let e : place + 1 + p ≡ place + suc p = omega arith in e)

row-past : (table : List (Option (Unit {0}))) (p : ℕ) → length table ≤ p → row table p ≡ None
row-past [] p h = refl
row-past (x ∷ table) zero h = absurd (omega (arith, h))
row-past (x ∷ table) (suc p) h = row-past table p (omega (arith, h))

mark-in : (other : List ℕ) (p : ℕ) → Contains other p → mark other p ≡ Some tt
mark-in other p h =
    ap (λ b. cond b (Some tt) None) (list_any_at (λ x. nat_eq x p) other h.0 p h.1 (eq-eqb _ p h.2))

marked-by : (b : Bool) (fact : Unit {0}) → cond b (Some tt) None ≡ Some fact → b ≡ true
marked-by true fact h = refl
marked-by false fact h = cc

mark-out : (other : List ℕ) (p : ℕ) (fact : Unit {0}) → mark other p ≡ Some fact → Contains other p
mark-out other p fact h =
    let any = Any-from_list_any (λ x. nat_eq x p) other (marked-by (list_any (λ x. nat_eq x p) other) fact h) in
    let here : any.1 ≡ p = eqb-true any.1 p any.4 in
    subst (Contains other) here (any.0, any.2, any.3)

-- ---- the least table over offsets is the least set of offsets

abbrev pub Told : Unit {0} → Unit {0} → Type 0
Told a b = Unit {0}

abbrev pub Starts : ℕ → Unit {0} → Type 0
Starts place fact = place ≡ 0

some-row : (r : Option (Unit {0})) → IsRowBelow Told (Some tt) r → (fact : Unit {0}) × (r ≡ Some fact)
some-row None h = absurd h
some-row (Some fact) h = (fact, refl)

row-told : (r : Option (Unit {0})) (fact : Unit {0}) → r ≡ Some tt → IsRowBelow Told (Some fact) r
row-told r fact e = subst (IsRowBelow Told (Some fact)) (sym e) tt

told-in : (table : List (Option (Unit {0}))) (p : ℕ) → IsRowBelow Told (Some tt) (row table p)
    → Contains (known_from 0 table) p
told-in table p h =
    let some = some-row (row table p) h in
    let e : 0 + p ≡ p = omega arith in
    subst (Contains (known_from 0 table)) e (known-in 0 table p some.0 some.1)

-- a set that is closed is a table that is a solution
solution-of : (instrs : List Instr) (clauses : List Clause) (other : List ℕ) → IsClosed instrs clauses other
    → IsSolution Told Starts (λ place known to fact. Leads instrs clauses place to) (marks other 0 (end_of instrs))
solution-of instrs clauses other closed =
    let end : ℕ = end_of instrs in
    let size : length (marks other 0 end) ≡ end = length-marks other 0 end in
    let marked : (p : ℕ) → p < end → Contains other p → row (marks other 0 end) p ≡ Some tt = λ p inside h.
    row-marks other 0 end p inside ∙ (ap (mark other) (let e : 0 + p ≡ p = omega arith in e) ∙ mark-in other p h) in
    record {
      started = λ place fact begin inside.
          let within : place < end = omega (arith, inside, size) in
          let some : 0 < end = omega (arith, within) in
          row-told (row (marks other 0 end) place) fact
          (marked place within (subst (Contains other) (sym begin) (closed.begin some)));
      closed = λ place known is to fact leads inside.
          let within : to < end = omega (arith, inside, size) in
          elim (inside-or-past place end) [
            | inl here ↦
                let member : Contains other place = mark-out other place known
                (sym (row-marks other 0 end place here
                ∙ ap (mark other) (let e : 0 + place ≡ place = omega arith in e)) ∙ is) in
                row-told (row (marks other 0 end) to) fact
                (marked to within (closed.leads place to member leads within))
            | inr past ↦
                let none : row (marks other 0 end) place ≡ None = row-past (marks other 0 end) place
                (omega (arith, past, size)) in
                let both : Some known ≡ None = sym is ∙ none in
                cc
          ];
    }

-- the offsets that the least table tells are those to which control comes
pub reached_by : (instrs : List Instr) (clauses : List Clause) (table : List (Option (Unit {0})))
    → length table ≡ end_of instrs
    → IsLeast Told Starts (λ place known to fact. Leads instrs clauses place to) table
    → AreReached instrs clauses (known_from 0 table)
reached_by instrs clauses table size least =
    record {
      closed = record {
        begin = λ some. told-in table 0 (least.solution.started 0 tt refl (omega (arith, some, size)));
        leads = λ offset to member leads inside.
            let known = All-contains (IsKnown table 0) (known_from 0 table) offset (known-out 0 table) member in
            let place : offset ≡ known.0 = let e : offset ≡ 0 + known.0 = known.1 in omega (arith, e) in
            told-in table to (least.solution.closed known.0 known.2 known.3 to tt
            (subst (λ o. Leads instrs clauses o to) place leads) (omega (arith, inside, size)));
      };
      least = λ other closed offset member.
          let end : ℕ = end_of instrs in
          let known = All-contains (IsKnown table 0) (known_from 0 table) offset (known-out 0 table) member in
          let place : known.0 ≡ offset = let e : offset ≡ 0 + known.0 = known.1 in omega (arith, e) in
          let below = least.least (marks other 0 end) (length-marks other 0 end ∙ sym size)
          (solution-of instrs clauses other closed) known.0 in
          let told : IsRowBelow Told (Some known.2) (row (marks other 0 end) known.0) =
          subst (λ r. IsRowBelow Told r (row (marks other 0 end) known.0)) known.3 below in
          let some = some-row (row (marks other 0 end) known.0) told in
          elim (inside-or-past known.0 end) [
            | inl here ↦ subst (Contains other) place
                (mark-out other known.0 some.0 (sym (row-marks other 0 end known.0 here
                ∙ ap (mark other) (let e : 0 + known.0 ≡ known.0 = omega arith in e)) ∙ some.1))
            | inr past ↦
                let none : row (marks other 0 end) known.0 ≡ None =
                row-past (marks other 0 end) known.0 (omega (arith, past, length-marks other 0 end)) in
                let both : Some some.0 ≡ None = sym some.1 ∙ none in
                cc
          ];
    }

-- ---- what falls past the end

found-by : {X : Type 0} (test : X → Bool) (y x : X) (xs : List X) (b : Bool) → test y ≡ b
    → (find test xs ≡ Some x → Contains xs x × (test x ≡ true)) → cond b (Some y) (find test xs) ≡ Some x
    → Contains (y ∷ xs) x × (test x ≡ true)
found-by test y x xs true is behind h =
    let same : y ≡ x = cc in
    ((0, omega arith, same), subst (λ z. test z ≡ true) same is)
found-by test y x xs false is behind h = let rest = behind h in (contains-behind y xs x rest.0, rest.1)

pub found-is : {X : Type 0} (test : X → Bool) (xs : List X) (x : X) → find test xs ≡ Some x
    → Contains xs x × (test x ≡ true)
found-is test [] x h = cc
found-is test (y ∷ xs) x h = found-by test y x xs (test y) refl (found-is test xs x) h

none-by : {X : Type 0} (test : X → Bool) (y : X) (xs : List X) (b : Bool) → test y ≡ b
    → (find test xs ≡ None → All (λ x. test x ≡ false) xs) → cond b (Some y) (find test xs) ≡ None
    → All (λ x. test x ≡ false) (y ∷ xs)
none-by test y xs true is behind h = cc
none-by test y xs false is behind h = All-cons (λ x. test x ≡ false) y xs is (behind h)

pub none-is : {X : Type 0} (test : X → Bool) (xs : List X) → find test xs ≡ None → All (λ x. test x ≡ false) xs
none-is test [] h = All-nil _
none-is test (y ∷ xs) h = none-by test y xs (test y) refl (none-is test xs) h

some-fact : (r : Option (Unit {0})) → is_some r ≡ true → (fact : Unit {0}) × (r ≡ Some fact)
some-fact None h = cc
some-fact (Some fact) h = (fact, refl)

-- an instruction that is told as past the end is one from which control runs past the end
pub runs_past : (instrs : List Instr) (clauses : List Clause) (table : List (Option (Unit {0}))) (end offset : ℕ)
    → length table ≡ end_of instrs
    → IsLeast Told Starts (λ place known to fact. Leads instrs clauses place to) table → end ≡ end_of instrs
    → Some offset ≡ option_map (λ i. i.at) (find (is_past table end) instrs) → RunsPastEnd instrs clauses offset
runs_past instrs clauses table end offset size least end-is told =
    by (find (is_past table end) instrs) refl told
  where
    by : (o : Option Instr) → find (is_past table end) instrs ≡ o → Some offset ≡ option_map (λ i. i.at) o
        → RunsPastEnd instrs clauses offset
    by None f e = cc
    by (Some i) f e =
        let found = found-is (is_past table end) instrs i f in
        let here : i.at ≡ offset = cc in
        let falls : (falls_through i.op ≡ true) × ((nat_le end i.next && is_some (row table i.at)) ≡ true) =
        and_parts (falls_through i.op) (nat_le end i.next && is_some (row table i.at)) found.1 in
        let rest : (nat_le end i.next ≡ true) × (is_some (row table i.at) ≡ true) =
        and_parts (nat_le end i.next) (is_some (row table i.at)) falls.1 in
        let known : (fact : Unit {0}) × (row table i.at ≡ Some fact) = some-fact (row table i.at) rest.1 in
        let from : 0 + i.at ≡ i.at = omega arith in
        let past : end ≤ i.next = leb-true end i.next rest.0 in
        inr (
          known_from 0 table,
          reached_by instrs clauses table size least,
          subst (Contains (known_from 0 table)) (from ∙ here) (known-in 0 table i.at known.0 known.1),
          i,
          found.0,
          here,
          (falls.0, subst (λ e. e ≤ i.next) end-is past),
        )

-- where none is told, control runs past the end nowhere
pub runs_on : (instrs : List Instr) (clauses : List Clause) (table : List (Option (Unit {0}))) (end : ℕ)
    → length table ≡ end_of instrs
    → IsLeast Told Starts (λ place known to fact. Leads instrs clauses place to) table → end ≡ end_of instrs
    → find (is_past table end) instrs ≡ None → (instrs ≡ [] → ⊥) → (offset : ℕ)
    → RunsPastEnd instrs clauses offset → ⊥
runs_on instrs clauses table end size least end-is none some offset (inl h) = some h.0
runs_on instrs clauses table end size least end-is none some offset (inr p) =
    let reached : AreReached instrs clauses (known_from 0 table) = reached_by instrs clauses table size least in
    let member : Contains (known_from 0 table) offset = p.1.least (known_from 0 table) reached.closed offset p.2 in
    let known = All-contains (IsKnown table 0) (known_from 0 table) offset (known-out 0 table) member in
    let place : offset ≡ known.0 = let e : offset ≡ 0 + known.0 = known.1 in omega (arith, e) in
    let here : row table p.3.at ≡ Some known.2 = ap (row table) (p.5 ∙ place) ∙ known.3 in
    let no : is_past table end p.3 ≡ false =
    All-contains (λ x. is_past table end x ≡ false) instrs p.3 (none-is (is_past table end) instrs none) p.4 in
    let past : end ≤ p.3.next = subst (λ e. e ≤ p.3.next) (sym end-is) p.6.1 in
    let yes : is_past table end p.3 ≡ true =
    and_from (falls_through p.3.op) (nat_le end p.3.next && is_some (row table p.3.at)) p.6.0
    (and_from (nat_le end p.3.next) (is_some (row table p.3.at)) (le-leb end p.3.next past) (ap is_some here)) in
    let both : true ≡ false = sym yes ∙ no in
    cc

-- ---- in rising order

rising-cons : (x : ℕ) (xs : List ℕ) → All (λ y. x < y) xs → IsStrictlyIncreasing xs → IsStrictlyIncreasing (x ∷ xs)
rising-cons x xs above rest zero inside =
    let less : 0 < length xs = omega (arith, inside) in above 0 0 less
rising-cons x xs above rest (suc k) inside =
    let e : suc (k + 1) ≡ suc k + 1 = omega arith in
    subst (λ n. slice_index xs k < slice_index (x ∷ xs) n) e (rest k (omega (arith, inside)))

pub known-rising : (place : ℕ) (table : List (Option (Unit {0}))) → IsStrictlyIncreasing (known_from place table)
known-rising place [] = λ k inside. absurd (omega (arith, inside))
known-rising place (None ∷ table) = known-rising (place + 1) table
known-rising place (Some u ∷ table) =
    rising-cons place (known_from (place + 1) table)
    (All-weaker (IsKnown table (place + 1)) (λ y. place < y)
    (λ o h. (let e : o ≡ place + 1 + h.0 = h.1 in omega (arith, e))) (known_from (place + 1) table)
    (known-out (place + 1) table)) (known-rising (place + 1) table)

pub if-ok : {T E : Type 0} (r : Result T E) (P Q : T → Type 0) → ((x : T) → P x → Q x) → IfOk r P → IfOk r Q
if-ok (Ok x) P Q f h = f x h
if-ok (Err e) P Q f h = tt

pub none_found : (o : Option Instr) → None ≡ option_map (λ i. i.at) o → o ≡ None
none_found None h = refl
none_found (Some i) h = cc

pub not_empty : (instrs : List Instr) (last : Instr) → slice_get instrs (length instrs - 1) ≡ Some last
    → instrs ≡ [] → ⊥
not_empty [] last h e = cc
not_empty (i ∷ instrs) last h e = cc
