-- The work from its begin to its end: places are looked at until none waits.
use Rattle.std.proofs.Common.{◌≡◌, inl, inr, ◌∙◌, ℕ, ◌+◌, List, [], ◌∷◌, ◌++◌, length, replicate, Option, Some, None}
use Rattle.std.proofs.Common.{All, Contains, refl, sym, subst, arith}
use Rattle.std.proofs.lemmas.List.Elements.{All-contains, All-weaker, All-contains_itself, Contains-push_cases}
use Rattle.least_flow.specs.Solution.{row, IsRowBelow, AllBelow, Tells, IsClosedAt, IsLeast, AreTold}
use Rattle.least_flow.specs.Telling.{known_places, IfKnown, AreWithin, Told, IsUnderWay}
use Rattle.least_flow.proofs.Rows.{tells-grows, tells-less, known-none, row-none}

some-none : {Fact : Type 0} (k : Fact) → Some k ≡ None → ⊥
some-none k e = cc

pub all-within : {Fact : Type 0} (IsWithin : ℕ → Fact → Type 0) (n : ℕ) (table : List (Option Fact))
    → table ≡ replicate n None → AreWithin IsWithin table
all-within IsWithin n table e = λ p. subst (λ x. IfKnown (IsWithin (known_places table)) x)
    (sym (row-none n table e p)) tt

-- What is passed on from a place, a table that is closed there and tells as much of it tells too.
passed-below : {Fact : Type 0} (IsBelow : Fact → Fact → Type 0) (Passes : ℕ → Fact → ℕ → Fact → Type 0)
    → ((a b c : Fact) → IsBelow a b → IsBelow b c → IsBelow a c)
    → ((place : ℕ) (a b : Fact) (to : ℕ) (fact : Fact) → IsBelow a b → Passes place a to fact
    → (more : Fact) × Passes place b to more × IsBelow fact more)
    → (other : List (Option Fact)) (place : ℕ) (known : Fact) (r : Option Fact) → row other place ≡ r
    → IsRowBelow IsBelow (Some known) r → IsClosedAt IsBelow Passes other place → (to : ℕ) (fact : Fact)
    → Passes place known to fact → Tells IsBelow other to fact
passed-below IsBelow Passes transitive monotone other place known None e below closed to fact passes = absurd below
passed-below IsBelow Passes transitive monotone other place known (Some b) e below closed to fact passes =
    let more = monotone place known b to fact below passes in
    tells-less IsBelow transitive other to fact more.0 more.2 (closed b e to more.0 more.1)

-- A place whose row wasn't raised while what is passed on from it was told is closed.
closed-here : {Fact : Type 0} (IsBelow : Fact → Fact → Type 0) (IsWithin : ℕ → Fact → Type 0)
    (Passes : ℕ → Fact → ℕ → Fact → Type 0) (rank : Fact → ℕ)
    → ((a b c : Fact) → IsBelow a b → IsBelow b c → IsBelow a c)
    → (place : ℕ) (known : Fact) (facts : List (ℕ × Fact)) (table new : List (Option Fact)) (waiting waiting' : List ℕ)
    → row table place ≡ Some known → AreTold IsBelow (Passes place known) facts
    → Told IsBelow IsWithin rank facts table new waiting waiting' → (p : ℕ) → place ≡ p → row new p ≡ row table p
    → IsClosedAt IsBelow Passes new p
closed-here IsBelow IsWithin Passes rank transitive place known facts table new waiting waiting' is given t p e same =
    λ k e' to fact passes.
    let there : row table p ≡ Some known = subst (λ q. row table q ≡ Some known) e is in
    let both : Some k ≡ Some known = sym e' ∙ (same ∙ there) in
    let k-is : k ≡ known = cc in
    let passes' : Passes place known to fact = subst (λ q. Passes q known to fact) (sym e)
    (subst (λ a. Passes p a to fact) k-is passes) in
    let has = given.all to fact passes' in
    tells-less IsBelow transitive new to fact has.0 has.2
    (All-contains (λ f. Tells IsBelow new f.0 f.1) facts (to, has.0) t.told has.1)

-- A place was looked at, and the table tells what is passed on from it.
pub looked : {Fact : Type 0} (IsBelow : Fact → Fact → Type 0) (Starts : ℕ → Fact → Type 0)
    (Passes : ℕ → Fact → ℕ → Fact → Type 0) (IsWithin : ℕ → Fact → Type 0) (rank : Fact → ℕ)
    → ((a b c : Fact) → IsBelow a b → IsBelow b c → IsBelow a c)
    → ((place : ℕ) (a b : Fact) (to : ℕ) (fact : Fact) → IsBelow a b → Passes place a to fact
    → (more : Fact) × Passes place b to more × IsBelow fact more)
    → (place : ℕ) (known : Fact) (facts : List (ℕ × Fact)) (table new : List (Option Fact)) (waiting waiting' : List ℕ)
    → IsUnderWay IsBelow Starts Passes IsWithin table (waiting ++ place ∷ []) → row table place ≡ Some known
    → AreTold IsBelow (Passes place known) facts → All (λ f. IsWithin (known_places table + 1) f.1) facts
    → Told IsBelow IsWithin rank facts table new waiting waiting'
    → IsUnderWay IsBelow Starts Passes IsWithin new waiting'
looked {Fact} IsBelow Starts Passes IsWithin rank transitive monotone place known facts table new waiting waiting' u is
    given near t =
    let grown : (p : ℕ) (fact : Fact) → Tells IsBelow table p fact
    → Tells IsBelow new p fact = tells-grows IsBelow transitive table new t.size t.grows in
    record {
      within = t.within u.within near;
      started = λ p fact starts. grown p fact (u.started p fact starts);
      below = λ other size solution.
          let size' : length other ≡ length table = size ∙ t.size in
          let so_far : AllBelow IsBelow table other = u.below other size' solution in
          let here : IsRowBelow IsBelow (Some known) (row other place) = subst
          (λ x. IsRowBelow IsBelow x (row other place)) is (so_far place) in
          t.least other size' so_far
          (All-weaker (Contains facts) (λ f. Tells IsBelow other f.0 f.1)
          (λ f h. let told = given.only f.0 f.1 h in
          tells-less IsBelow transitive other f.0 f.1 told.0 told.2
          (passed-below IsBelow Passes transitive monotone other place known (row other place) refl here
          (solution.closed place) f.0 told.0 told.1))
          facts (All-contains_itself facts));
      waits = λ p. elim (t.changed p) [
        | inr waits ↦ inl waits
        | inl same ↦ elim (u.waits p) [
          | inr closed ↦ inr (λ k e to fact passes. grown to fact (closed k (sym same ∙ e) to fact passes))
          | inl waits ↦ elim (Contains-push_cases waiting place p waits) [
            | inl waits' ↦ inl (t.waits p waits')
            | inr e ↦ inr
                (closed-here IsBelow IsWithin Passes rank transitive place known facts table new waiting waiting' is
                given t p e same)
          ]
        ]
      ];
    }

-- A place of which nothing is known passes nothing on.
pub idle : {Fact : Type 0} (IsBelow : Fact → Fact → Type 0) (Starts : ℕ → Fact → Type 0)
    (Passes : ℕ → Fact → ℕ → Fact → Type 0) (IsWithin : ℕ → Fact → Type 0) (place : ℕ) (table : List (Option Fact))
    (waiting : List ℕ) → IsUnderWay IsBelow Starts Passes IsWithin table (waiting ++ place ∷ [])
    → row table place ≡ None → IsUnderWay IsBelow Starts Passes IsWithin table waiting
idle {Fact} IsBelow Starts Passes IsWithin place table waiting u none =
    record {
      within = u.within;
      started = u.started;
      below = u.below;
      waits = λ p. elim (u.waits p) [
        | inr closed ↦ inr closed
        | inl waits ↦ elim (Contains-push_cases waiting place p waits) [
          | inl waits' ↦ inl waits'
          | inr e ↦ inr (λ k e' to fact passes. absurd (some-none k (sym e' ∙ subst (λ q. row table q ≡ None) e none)))
        ]
      ];
    }

-- The table of which nothing was known tells what is told from the start.
pub begun : {Fact : Type 0} (IsBelow : Fact → Fact → Type 0) (Starts : ℕ → Fact → Type 0)
    (Passes : ℕ → Fact → ℕ → Fact → Type 0) (IsWithin : ℕ → Fact → Type 0) (rank : Fact → ℕ)
    → ((a b c : Fact) → IsBelow a b → IsBelow b c → IsBelow a c)
    → (n : ℕ) (facts : List (ℕ × Fact)) (empty new : List (Option Fact)) (waiting : List ℕ) → empty ≡ replicate n None
    → AreTold IsBelow Starts facts → All (λ f. IsWithin 1 f.1) facts
    → Told IsBelow IsWithin rank facts empty new [] waiting → IsUnderWay IsBelow Starts Passes IsWithin new waiting
begun {Fact} IsBelow Starts Passes IsWithin rank transitive n facts empty new waiting e given near t =
    let nothing : (p : ℕ) → row empty p ≡ None = row-none n empty e in
    record {
      within = t.within (all-within IsWithin n empty e)
          (subst (λ k. All (λ f. IsWithin (k + 1) f.1) facts) (sym (known-none n empty e)) near);
      started = λ p fact starts. let has = given.all p fact starts in
          tells-less IsBelow transitive new p fact has.0 has.2
          (All-contains (λ f. Tells IsBelow new f.0 f.1) facts (p, has.0) t.told has.1);
      below = λ other size solution.
          t.least other (size ∙ t.size) (λ p. subst (λ x. IsRowBelow IsBelow x (row other p)) (sym (nothing p)) tt)
          (All-weaker (Contains facts) (λ f. Tells IsBelow other f.0 f.1)
          (λ f h. let told = given.only f.0 f.1 h in
          tells-less IsBelow transitive other f.0 f.1 told.0 told.2 (solution.started f.0 told.0 told.1))
          facts (All-contains_itself facts));
      waits = λ p. elim (t.changed p) [
        | inr waits ↦ inl waits
        | inl same ↦ inr (λ k e' to fact passes. absurd (some-none k (sym e' ∙ (same ∙ nothing p))))
      ];
    }

-- No place waits.
pub ended : {Fact : Type 0} (IsBelow : Fact → Fact → Type 0) (Starts : ℕ → Fact → Type 0)
    (Passes : ℕ → Fact → ℕ → Fact → Type 0) (IsWithin : ℕ → Fact → Type 0) (table : List (Option Fact))
    (waiting : List ℕ) → IsUnderWay IsBelow Starts Passes IsWithin table waiting → length waiting ≡ 0
    → IsLeast IsBelow Starts Passes table
ended IsBelow Starts Passes IsWithin table waiting u none =
    record {
      solution = record {
        started = u.started;
        closed = λ p. elim (u.waits p) [ inl waits ↦ absurd (omega (arith, waits.1, none)) | inr closed ↦ closed ];
      };
      least = u.below;
    }
