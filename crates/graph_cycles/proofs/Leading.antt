-- Ways that are put together, and marks that hold all that marked places lead to.
use Rattle.std.proofs.Common.{◌≡◌, inl, inr, ℕ, zero, suc, ◌≤◌, ◌==◌, ◌||◌, Bool, true, List, [], ◌∷◌}
use Rattle.std.proofs.Common.{Contains, refl, sym, subst, arith, eqb-true, eq-eqb}
use Rattle.std.proofs.lemmas.Bool.{or_cases, or_left, or_right, and_parts, and_from, false≢true}
use Rattle.std.specs.List.{list_all, list_any}
use Rattle.std.proofs.lemmas.List.Folds.{list_any_at}
use Rattle.graph_cycles.specs.Ways.{targets, leads_within}
use Rattle.graph_cycles.specs.Marks.{is_done}

-- what follows from two tests of one item, of which all pass the one and some passes the other
pub taken : (p q : ℕ → Bool) (P : Type 0) → ((x : ℕ) → q x ≡ true → p x ≡ true → P) → (xs : List ℕ)
    → list_all q xs ≡ true → list_any p xs ≡ true → P
taken p q P f [] all any = absurd (false≢true any)
taken p q P f (x ∷ xs) all any =
    let both : (q x ≡ true) × (list_all q xs ≡ true) = and_parts (q x) (list_all q xs) all in
    elim (or_cases (p x) (list_any p xs) any) [
      | inl here ↦ f x both.0 here
      | inr behind ↦ taken p q P f xs both.1 behind
    ]

pub any_weaker : (p q : ℕ → Bool) → ((x : ℕ) → p x ≡ true → q x ≡ true) → (xs : List ℕ) → list_any p xs ≡ true
    → list_any q xs ≡ true
any_weaker p q f [] any = absurd (false≢true any)
any_weaker p q f (x ∷ xs) any =
    elim (or_cases (p x) (list_any p xs) any) [
      | inl here ↦ or_left (q x) (list_any q xs) (f x here)
      | inr behind ↦ or_right (q x) (list_any q xs) (any_weaker p q f xs behind)
    ]

pub all_weaker : (p q : ℕ → Bool) → ((x : ℕ) → p x ≡ true → q x ≡ true) → (xs : List ℕ) → list_all p xs ≡ true
    → list_all q xs ≡ true
all_weaker p q f [] all = refl
all_weaker p q f (x ∷ xs) all =
    let both : (p x ≡ true) × (list_all p xs ≡ true) = and_parts (p x) (list_all p xs) all in
    and_from (q x) (list_all q xs) (f x both.0) (all_weaker p q f xs both.1)

any_contains : (p : ℕ → Bool) (xs : List ℕ) (x : ℕ) → Contains xs x → p x ≡ true → list_any p xs ≡ true
any_contains p xs x h e = list_any_at p xs h.0 x h.1 (subst (λ y. p y ≡ true) (sym h.2) e)

-- ---- ways

pub within_more : (k m : ℕ) (graph : List (List ℕ)) (from to : ℕ) → leads_within k graph from to ≡ true → k ≤ m
    → leads_within m graph from to ≡ true
within_more zero m graph from to e h = absurd (false≢true e)
within_more (suc k) zero graph from to e h = absurd (omega arith)
within_more (suc k) (suc m) graph from to e h =
    let l : k ≤ m = omega arith in
    any_weaker (λ next. next == to || leads_within k graph next to) (λ next. next == to || leads_within m graph next to)
    (λ next w. elim (or_cases (next == to) (leads_within k graph next to) w) [
      | inl same ↦ or_left (next == to) (leads_within m graph next to) same
      | inr on ↦ or_right (next == to) (leads_within m graph next to) (within_more k m graph next to on l)
    ])
    (targets graph from) e

pub one_edge : (k : ℕ) (graph : List (List ℕ)) (from next : ℕ) → Contains (targets graph from) next
    → leads_within (suc k) graph from next ≡ true
one_edge k graph from next h =
    any_contains (λ x. x == next || leads_within k graph x next) (targets graph from) next h
    (or_left (next == next) (leads_within k graph next next) (eq-eqb next next refl))

-- a way and an edge behind it
pub one_further : (k : ℕ) (graph : List (List ℕ)) (from to next : ℕ) → leads_within k graph from to ≡ true
    → Contains (targets graph to) next → leads_within (suc k) graph from next ≡ true
one_further zero graph from to next e h = absurd (false≢true e)
one_further (suc k) graph from to next e h =
    any_weaker (λ x. x == to || leads_within k graph x to) (λ x. x == next || leads_within (suc k) graph x next)
    (λ x w. or_right (x == next) (leads_within (suc k) graph x next)
    (elim (or_cases (x == to) (leads_within k graph x to) w) [
      | inl same ↦ subst (λ y. leads_within (suc k) graph y next ≡ true) (sym (eqb-true x to same))
          (one_edge k graph to next h)
      | inr on ↦ one_further k graph x to next on h
    ]))
    (targets graph from) e

-- Where marked places lead to marked ones alone, all ways from places that lead to marked ones end at marked ones.
pub led_done : (graph : List (List ℕ)) (marks : List Bool) (to : ℕ)
    → ((place : ℕ) → is_done marks place ≡ true → list_all (is_done marks) (targets graph place) ≡ true)
    → (k from : ℕ) → list_all (is_done marks) (targets graph from) ≡ true → leads_within k graph from to ≡ true
    → is_done marks to ≡ true
led_done graph marks to closed zero from all e = absurd (false≢true e)
led_done graph marks to closed (suc k) from all e =
    taken (λ next. next == to || leads_within k graph next to) (is_done marks) (is_done marks to ≡ true)
    (λ next done way. elim (or_cases (next == to) (leads_within k graph next to) way) [
      | inl same ↦ subst (λ y. is_done marks y ≡ true) (eqb-true next to same) done
      | inr on ↦ led_done graph marks to closed k next (closed next done) on
    ])
    (targets graph from) all e
