-- The work from its begin to its end: places are worked on until none waits.
use Rattle.std.proofs.Common.{◌≡◌, inl, inr, ℕ, ◌<◌, ◌≤◌, Bool, true, List, [], ◌∷◌, All, Contains, length}
use Rattle.std.proofs.Common.{slice_get}
use Rattle.std.proofs.Common.{Some, unwrap_or, Ordering, sym, ap, subst, arith}
use Rattle.std.proofs.lemmas.Option.{slice_get_within}
use Rattle.std.proofs.lemmas.List.Elements.{All-contains, All-nil, All-tail, All-weaker}
use Rattle.std.proofs.lemmas.List.Sorted.{All-permutation, Contains-permutation}
use Rattle.std.specs.List.Sorted.{IsPermutation}
use Rattle.std.specs.BTreeMap.{is_at}
use Rattle.std.specs.Map.{lookup}
use Rattle.dep_core.specs.declared.mark.Mark.{Mark}
use Rattle.dep_core.specs.declared.waiting.Waiter.{Waiter}
use Rattle.dep_core.specs.Kept.{AreAmong, IsClosed, row_by}
use Rattle.dep_core.specs.UnderWay.{Grows, HasNode, IsHandled, IsTold, IsUnderWay, IsWaiter, MeetAt, waiter_of}
use Rattle.dep_core.specs.UnderWay.{waiters_of}
use Rattle.dep_core.proofs.Lists.{contains_cases, contains_get, contains_none, get_cases, get_contains}
use Rattle.dep_core.proofs.Adding.{contains_grows, get_grows, length_grows}

module _ {N : Type 0} (root : N → Type 0) (gives : N → N → ℕ → Type 0) (awaits meets : N → N → N → ℕ → Type 0)
    (can_seek can_be_sought : N → Bool) (cmp : N → N → Ordering) where
  abbrev UnderWay : List N → List ℕ → List (N × List (Waiter N)) → List ℕ → List ℕ → Type 0
  UnderWay ns work waiting seeking sought =
      IsUnderWay root gives awaits meets can_seek can_be_sought cmp ns work waiting seeking sought

  -- an item within a list that has grown was there before
  get_back : (ns ms : List N) (work work' : List ℕ) → Grows ns ms work work' → (p : ℕ) (a : N) → p < length ns
      → slice_get ms p ≡ Some a → slice_get ns p ≡ Some a
  get_back ns ms work work' g p a low h = elim (get_cases ns g.longer.0 p a
      (subst (λ l. slice_get l p ≡ Some a) g.longer.1 h)) [
        | inl before ↦ before
        | inr behind ↦ absurd (omega (arith, low, behind.0))
      ]

  pub advanced : (Names : Mark N → Type 0) (ns ms : List N) (place : ℕ) (work work' : List ℕ) (told : List (Mark N))
      (waiting waiting' : List (N × List (Waiter N))) (seeking seeking' sought sought' : List ℕ)
      → UnderWay ns (place ∷ work) waiting seeking sought
      → IsTold gives awaits meets can_seek can_be_sought cmp Names ns place told waiting waiting' seeking seeking'
      sought sought'
      → Grows ns ms work work' → ((m : Mark N) → Contains told m → Contains ms m.node)
      → UnderWay ms work' waiting' seeking' sought'
  advanced Names ns ms place work work' told waiting waiting' seeking seeking' sought sought' u t g marked =
      let grow : (n : N) → Contains ns n → Contains ms n = contains_grows ns ms work work' g in
      let has : (n : N) → HasNode told n → Contains ms n = λ n h. subst (Contains ms) h.2 (marked h.0 h.1) in
      let wider : (l : List ℕ) → All (λ p. p < length ns) l → All (λ p. p < length ms) l = λ l.
      All-weaker (λ p. p < length ns) (λ p. p < length ms) (λ p h. omega (arith, h, length_grows ns ms work work' g))
      l in
      let moved : (b : N) (w : Waiter N) → IsWaiter awaits ns b w → IsWaiter awaits ms b w = λ b w by.
      (by.0, get_grows ns ms work work' g w.from by.0 by.1, by.2) in
      let seeking-within : All (λ p. p < length ns) seeking' = t.seeking_within u.seeking_within in
      let sought-within : All (λ p. p < length ns) sought' = t.sought_within u.sought_within in
      let here : (a : N) → slice_get ns place ≡ Some a
      → IsHandled gives awaits can_seek can_be_sought cmp ms waiting' seeking' sought' place a = λ a at. record {
        gave = λ n rule by. has n (t.gave a n rule at by);
        waits = λ b n rule by. elim (t.waits a b n rule at by) [ inl told ↦ inl (has n told) | inr waits ↦ inr waits ];
        released = λ w. t.released a w at;
        seeks = t.seeks a at;
        is_sought = t.is_sought a at;
      } in
      let still : (p : ℕ) (a : N) → slice_get ns p ≡ Some a
      → IsHandled gives awaits can_seek can_be_sought cmp ns waiting seeking sought p a
      → IsHandled gives awaits can_seek can_be_sought cmp ms waiting' seeking' sought' p a = λ p a at h. record {
        gave = λ n rule by. grow n (h.gave n rule by);
        waits = λ b n rule by. elim (h.waits b n rule by) [
          | inl there ↦ inl (grow n there)
          | inr waits ↦ elim (t.kept b (waiter_of n rule p) waits) [ inl more ↦ inr more | inr told ↦ inl (has n told) ]
        ];
        released = λ w k. elim (t.only a w k) [
          | inl old ↦ h.released w old
          | inr new ↦ new.1 (get_contains ns p a at)
        ];
        seeks = λ c. t.seeking_stay p (h.seeks c);
        is_sought = λ c. t.sought_stay p (h.is_sought c);
      } in
      record {
        works = g.within (All-tail (λ p. p < length ns) place work u.works);
        roots = λ n r. grow n (u.roots n r);
        handled = λ p a at. elim (get_cases ns g.longer.0 p a (subst (λ l. slice_get l p ≡ Some a) g.longer.1 at)) [
          | inr behind ↦ inl (g.new_waits p behind.0 (slice_get_within ms p a at))
          | inl before ↦ elim (u.handled p a before) [
            | inr h ↦ inr (still p a before h)
            | inl waits ↦ elim (contains_cases p place work waits) [
              | inr other ↦ inl (g.waits p other)
              | inl same ↦ inr (subst (λ x. IsHandled gives awaits can_seek can_be_sought cmp ms waiting' seeking'
                  sought' x a) same
                  (here a (subst (λ x. slice_get ns x ≡ Some a) (sym same) before)))
            ]
          ]
        ];
        rows = λ b w h. elim (t.only b w h) [ inl old ↦ moved b w (u.rows b w old) | inr new ↦ moved b w new.0 ];
        met = λ p q n sp sq m.
            let at : slice_get ns p ≡ Some m.0 = get_back ns ms work work' g p m.0
            (All-contains (λ x. x < length ns) seeking' p seeking-within sp) m.3 in
            let at' : slice_get ns q ≡ Some m.1 = get_back ns ms work work' g q m.1
            (All-contains (λ x. x < length ns) sought' q sought-within sq) m.4 in
            let m' : MeetAt meets ns p q n = (m.0, m.1, m.2, at, at', m.5) in
            elim (t.met p q n sp sq m') [
              | inl both ↦ grow n (u.met p q n both.0 both.1 m')
              | inr told ↦ has n told
            ];
        seeking_within = wider seeking' seeking-within;
        sought_within = wider sought' sought-within;
      }

  -- the places that wait stand in another order
  pub reordered : (ns : List N) (work other : List ℕ) (waiting : List (N × List (Waiter N))) (seeking sought : List ℕ)
      → IsPermutation work other → UnderWay ns work waiting seeking sought → UnderWay ns other waiting seeking sought
  reordered ns work other waiting seeking sought same u = record {
    works = All-permutation (λ p. p < length ns) work other same u.works;
    roots = u.roots;
    handled = λ p a at. elim (u.handled p a at) [
      | inl waits ↦ inl (Contains-permutation work other p same waits)
      | inr h ↦ inr h
    ];
    rows = u.rows;
    met = u.met;
    seeking_within = u.seeking_within;
    sought_within = u.sought_within;
  }

  -- the roots are marked
  pub begun : (ns ms : List N) (work' : List ℕ) (told : List (Mark N)) (waiting : List (N × List (Waiter N)))
      → ns ≡ [] → waiting ≡ [] → ((n : N) → root n → HasNode told n) → Grows ns ms [] work'
      → ((m : Mark N) → Contains told m → Contains ms m.node) → UnderWay ms work' waiting [] []
  begun ns ms work' told waiting empty none roots g marked = record {
    works = g.within (All-nil (λ p. p < length ns));
    roots = λ n r. let h = roots n r in subst (Contains ms) h.2 (marked h.0 h.1);
    handled = λ p a at. inl (g.new_waits p (subst (λ (l : List N). length l ≤ p) (sym empty) (omega arith))
        (slice_get_within ms p a at));
    rows = λ b w h. absurd (contains_none w (subst (λ l. Contains l w) (nothing waiting b none) h));
    met = λ p q n sp sq m. absurd (contains_none p sp);
    seeking_within = All-nil (λ p. p < length ms);
    sought_within = All-nil (λ p. p < length ms);
  }
    where
      nothing : (waiting : List (N × List (Waiter N))) (b : N) → waiting ≡ [] → waiters_of cmp waiting b ≡ []
      nothing waiting b e = ap (λ es. unwrap_or (lookup (is_at (cmp b)) es) []) e

  -- no place waits
  pub ended : ((a b n : N) (rule : ℕ) → meets a b n rule → (can_seek a ≡ true) × (can_be_sought b ≡ true))
      → (ns : List N)
      (waiting : List (N × List (Waiter N))) (seeking sought : List ℕ) → UnderWay ns [] waiting seeking sought
      → IsClosed root (row_by gives awaits meets) ns
  ended only ns waiting seeking sought u = (u.roots, λ given n rule are by. closed given n rule are by)
    where
      handled : (a : N) → Contains ns a
          → (p : ℕ) × (slice_get ns p ≡ Some a) × IsHandled gives awaits can_seek can_be_sought cmp ns waiting seeking
          sought p a
      handled a h =
          let at = contains_get ns a h in
          elim (u.handled at.0 a at.1) [
            | inl waits ↦ absurd (contains_none at.0 waits)
            | inr done ↦ (at.0, at.1, done)
          ]

      closed : (given : List N) (n : N) (rule : ℕ) → AreAmong given ns → row_by gives awaits meets given n rule
          → Contains ns n
      closed [] n rule are by = absurd by
      closed (a ∷ []) n rule are by = (handled a are.0).2.gave n rule by
      closed (a ∷ b ∷ []) n rule are by = elim by [
        | inl awaited ↦ elim ((handled a are.0).2.waits b n rule awaited) [
          | inl there ↦ there
          | inr waits ↦ absurd ((handled b are.1.0).2.released (waiter_of n rule (handled a are.0).0) waits)
        ]
        | inr met ↦
            let can = only a b n rule met in
            let x = handled a are.0 in
            let y = handled b are.1.0 in
            u.met x.0 y.0 n (x.2.seeks can.0) (y.2.is_sought can.1) (a, b, rule, x.1, y.1, met)
      ]
      closed (a ∷ b ∷ c ∷ given) n rule are by = absurd by
