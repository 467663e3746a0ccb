-- A closed list holds what is derivable.
use Rattle.std.proofs.Common.{◌≡◌, ℕ, inl, inr, List, [], ◌∷◌, ◌++◌, Contains, length, length-append, ◌≤◌}
use Rattle.std.proofs.Common.{sym, ap}
use Rattle.std.proofs.Common.{subst, arith}
use Rattle.std.proofs.lemmas.List.Elements.{Contains-append_cases, Contains-append_left, Contains-append_right}
use Rattle.std.proofs.lemmas.List.Elements.{Contains-push}
use Rattle.std.proofs.lemmas.List.Elements.{Contains-push_cases}
use Rattle.dep_core.specs.Kept.{AreAmong, Follows, IsDerivationFrom, IsDerivation, IsDerivable, IsClosed}
use Rattle.dep_core.proofs.Lists.{contains_none, contains_here, contains_behind, contains_cases}

module _ {N : Type 0} (root : N → Type 0) (row : List N → N → ℕ → Type 0) (ns : List N)
    (closed : IsClosed root row ns) where
  among : (given before : List N) → ((n : N) → Contains before n → Contains ns n) → AreAmong given before
      → AreAmong given ns
  among [] before inside are = tt
  among (m ∷ ms) before inside are = (inside m are.0, among ms before inside are.1)

  next : (before : List N) (n : N) → ((m : N) → Contains before m → Contains ns m) → Follows root row before n
      → Contains ns n
  next before n inside follows = elim follows [
    | inl top ↦ closed.0 n top
    | inr by ↦ closed.1 by.0 n by.1 (among by.0 before inside by.2) by.3
  ]

  one_more : (before : List N) (n m : N) → ((k : N) → Contains before k → Contains ns k) → Contains ns n
      → Contains (before ++ n ∷ []) m → Contains ns m
  one_more before n m inside there h = elim (Contains-push_cases before n m h) [
    | inl earlier ↦ inside m earlier
    | inr same ↦ subst (Contains ns) same there
  ]

  holds_from : (before ds : List N) (n : N) → ((m : N) → Contains before m → Contains ns m)
      → IsDerivationFrom root row before ds → Contains ds n → Contains ns n
  holds_from before [] n inside derives h = absurd (contains_none n h)
  holds_from before (d ∷ ds) n inside derives h =
      let there : Contains ns d = next before d inside derives.0 in
      elim (contains_cases n d ds h) [
        | inl same ↦ subst (Contains ns) same there
        | inr rest ↦ holds_from (before ++ d ∷ []) ds n (λ m k. one_more before d m inside there k) derives.2 rest
      ]

  pub holds : (n : N) → IsDerivable root row n → Contains ns n
  holds n derived = holds_from [] derived.0 n (λ m h. absurd (contains_none m h)) derived.1 derived.2

module _ {N : Type 0} where
  abbrev AreDistinct : List N → Type 0
  AreDistinct [] = Unit {0}
  AreDistinct (n ∷ ns) = (¬ Contains ns n) × AreDistinct ns

  part : (n : N) (ns : List N) → Contains ns n → (us : List N) × (vs : List N) × (ns ≡ us ++ n ∷ vs)
  part n [] h = absurd (contains_none n h)
  part n (m ∷ ms) h = elim (contains_cases n m ms h) [
    | inl same ↦ ([], ms, ap (λ k. k ∷ ms) same)
    | inr rest ↦ let on = part n ms rest in (m ∷ on.0, on.1, ap (λ l. m ∷ l) on.2)
  ]

  elsewhere : (n m : N) (us vs : List N) → ¬ (n ≡ m) → Contains (us ++ n ∷ vs) m → Contains (us ++ vs) m
  elsewhere n m us vs other h = elim (Contains-append_cases us (n ∷ vs) m h) [
    | inl left ↦ Contains-append_left us vs m left
    | inr right ↦ elim (contains_cases m n vs right) [
      | inl same ↦ absurd (other same)
      | inr rest ↦ Contains-append_right us vs m rest
    ]
  ]

  fits : (xs ys : List N) → AreDistinct xs → ((n : N) → Contains xs n → Contains ys n) → length xs ≤ length ys
  fits [] ys d inside = omega arith
  fits (x ∷ xs) ys d inside =
      let cut = part x ys (inside x (contains_here x xs)) in
      let us : List N = cut.0 in
      let vs : List N = cut.1 in
      let fewer : length xs ≤ length (us ++ vs) = fits xs (us ++ vs) d.1 (λ n h.
      elsewhere x n us vs (λ same. d.0 (subst (Contains xs) (sym same) h))
      (subst (λ l. Contains l n) cut.2 (inside n (contains_behind n x xs h)))) in
      omega (arith, fewer, ap length cut.2, length-append us (x ∷ vs), length-append us vs)

  module _ (root : N → Type 0) (row : List N → N → ℕ → Type 0) where
    apart : (before ns : List N) (n : N) → IsDerivationFrom root row before ns → Contains ns n → Contains before n
        → ⊥
    apart before [] n derives h there = absurd (contains_none n h)
    apart before (m ∷ ms) n derives h there = elim (contains_cases n m ms h) [
      | inl same ↦ derives.1 (subst (Contains before) (sym same) there)
      | inr rest ↦ apart (before ++ m ∷ []) ms n derives.2 rest (Contains-append_left before (m ∷ []) n there)
    ]

    distinct : (before ns : List N) → IsDerivationFrom root row before ns → AreDistinct ns
    distinct before [] derives = tt
    distinct before (m ∷ ms) derives = (
      λ h. apart (before ++ m ∷ []) ms m derives.2 h (Contains-push before m),
      distinct (before ++ m ∷ []) ms derives.2,
    )

    -- no derivation is longer than a closed list
    pub no_longer : (ns ds : List N) → IsClosed root row ns → IsDerivation root row ds → length ds ≤ length ns
    no_longer ns ds closed derives =
        fits ds ns (distinct [] ds derives) (λ n h. holds root row ns closed n (ds, derives, h))
