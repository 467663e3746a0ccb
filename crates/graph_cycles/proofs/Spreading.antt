-- Marks that spread over the edges of a graph.
use Rattle.std.proofs.Common.{◌≡◌, ◌⊎◌, inl, inr, ◌∙◌, ℕ, suc, ◌+◌, ◌<◌, Bool, true, false, cond, List, [], ◌∷◌, ◌++◌}
use Rattle.std.proofs.Common.{length, Contains, refl, sym, ap, subst, arith}
use Rattle.std.proofs.Common.{get_or, get_or-set_same, get_or-set_other}
use Rattle.std.proofs.Math.ListN.{set, length-set}
use Rattle.std.proofs.lemmas.Bool.{and_from, cases_eq, false≢true}
use Rattle.std.proofs.lemmas.List.{get_or_past, length_push}
use Rattle.std.proofs.lemmas.List.Elements.{Contains-append_left, Contains-append_right, Contains-push}
use Rattle.std.proofs.lemmas.List.Elements.{Contains-push_cases}
use Rattle.std.proofs.lemmas.List.Folds.{list_all-append}
use Rattle.std.proofs.lemmas.List.Sums.{count_by-le-length, sum_by-set}
use Rattle.std.specs.List.{list_all}
use Rattle.graph_cycles.specs.Ways.{targets, leads_within}
use Rattle.graph_cycles.specs.Marks.{is_done, is_marked, mark_count, AreReached, AreSpreading, Spread}
use Rattle.graph_cycles.proofs.Leading.{all_weaker, led_done, one_edge, one_further, within_more}
use Rattle.graph_cycles.proofs.Marking.{done_cases, marked_done, unseen_unmarked, unseen_within}
use Rattle.graph_cycles.proofs.Marking.{past_all}

-- ---- some places

grown_done : (old new : List Bool) → length new ≡ length old
    → ((place : ℕ) → is_marked old place ≡ true → is_marked new place ≡ true) → (place : ℕ)
    → is_done old place ≡ true → is_done new place ≡ true
grown_done old new size grown place done =
    elim (done_cases old place done) [
      | inl marked ↦ marked_done new place (grown place marked)
      | inr past ↦ get_or_past new place true (omega (arith, size))
    ]

pub spread_none : (marks : List Bool) (waiting : List ℕ) → Spread [] marks marks waiting waiting
spread_none marks waiting = record {
  size = refl;
  grown = λ place marked. marked;
  told = refl;
  fresh = λ place marked. inl marked;
  waits = λ place waits. inl waits;
  kept = λ place waits. waits;
  count = refl;
  more = omega arith;
}

pub spread_marked : (place : ℕ) (marks : List Bool) (waiting : List ℕ) → is_done marks place ≡ true
    → Spread (place ∷ []) marks marks waiting waiting
spread_marked place marks waiting done = record {
  size = refl;
  grown = λ p marked. marked;
  told = and_from (is_done marks place) true done refl;
  fresh = λ p marked. inl marked;
  waits = λ p waits. inl waits;
  kept = λ p waits. waits;
  count = refl;
  more = omega arith;
}

one_counted : (marks : List Bool) (place : ℕ) → is_done marks place ≡ false
    → mark_count (set marks place true) ≡ mark_count marks + 1
one_counted marks place unseen =
    let size : Bool → ℕ = λ mark. cond mark 1 0 in
    let e : mark_count (set marks place true) + size (get_or marks place false) ≡ mark_count marks + 1 =
    sum_by-set size marks place true false (unseen_within marks place unseen) in
    let none : size (get_or marks place false) ≡ 0 = ap size (unseen_unmarked marks place unseen) in
    omega (arith, e, none)

pub spread_one : (place : ℕ) (marks : List Bool) (waiting : List ℕ) → is_done marks place ≡ false
    → Spread (place ∷ []) marks (set marks place true) waiting (waiting ++ place ∷ [])
spread_one place marks waiting unseen =
    let lt : place < length marks = unseen_within marks place unseen in
    let counted : mark_count (set marks place true) ≡ mark_count marks + 1 = one_counted marks place unseen in
    let long : length (waiting ++ place ∷ []) ≡ length waiting + 1 = length_push waiting place in
    let rises : mark_count marks < mark_count (set marks place true) = omega (arith, counted) in
    record {
      size = length-set marks place true;
      grown = λ p marked. elim (cases_eq p place) [
        | inl e ↦ subst (λ q. is_marked (set marks place true) q ≡ true) (sym e)
            (get_or-set_same marks place true false lt)
        | inr ne ↦ get_or-set_other marks place p true false ne ∙ marked
      ];
      told = and_from (is_done (set marks place true) place) true (get_or-set_same marks place true true lt) refl;
      fresh = λ p marked. elim (cases_eq p place) [
        | inl e ↦ inr (subst (λ q. Contains (place ∷ []) q × Contains (waiting ++ place ∷ []) q
            × (mark_count marks < mark_count (set marks place true))) (sym e)
            (Contains-push [] place, Contains-push waiting place, rises))
        | inr ne ↦ inl (sym (get_or-set_other marks place p true false ne) ∙ marked)
      ];
      waits = λ p waits. elim (Contains-push_cases waiting place p waits) [
        | inl before ↦ inl before
        | inr e ↦ inr (subst (λ q. is_marked (set marks place true) q ≡ true) e
            (get_or-set_same marks place true false lt))
      ];
      kept = λ p waits. Contains-append_left waiting (place ∷ []) p waits;
      count = omega (arith, counted, long);
      more = omega (arith, counted);
    }

pub spread_more : (xs ys : List ℕ) (a b c : List Bool) (p q r : List ℕ) → Spread xs a b p q → Spread ys b c q r
    → Spread (xs ++ ys) a c p r
spread_more xs ys a b c p q r s t = record {
  size = t.size ∙ s.size;
  grown = λ place marked. t.grown place (s.grown place marked);
  told =
      list_all-append (is_done c) xs ys
      ∙ and_from (list_all (is_done c) xs) (list_all (is_done c) ys)
      (all_weaker (is_done b) (is_done c) (grown_done b c t.size t.grown) xs s.told) t.told;
  fresh = λ place marked. elim (t.fresh place marked) [
    | inl old ↦ elim (s.fresh place old) [
      | inl before ↦ inl before
      | inr new ↦ inr (Contains-append_left xs ys place new.0, t.kept place new.1, omega (arith, new.2, t.more))
    ]
    | inr new ↦ inr (Contains-append_right xs ys place new.0, new.1, omega (arith, new.2, s.more))
  ];
  waits = λ place waits. elim (t.waits place waits) [
    | inl old ↦ elim (s.waits place old) [ inl before ↦ inl before | inr marked ↦ inr (t.grown place marked) ]
    | inr marked ↦ inr marked
  ];
  kept = λ place waits. t.kept place (s.kept place waits);
  count = omega (arith, s.count, t.count);
  more = omega (arith, s.more, t.more);
}

-- ---- from a place

pub begun : (graph : List (List ℕ)) (from : ℕ) (marks : List Bool) (size : length marks ≡ length graph)
    → ((place : ℕ) → is_marked marks place ≡ false) → AreSpreading graph from marks (from ∷ [])
begun graph from marks size none = record {
  size = size;
  led = λ to marked. absurd (false≢true (sym (none to) ∙ marked));
  waits = λ place waits. elim (Contains-push_cases [] from place waits) [
    | inl nowhere ↦ absurd (omega (arith, nowhere.1))
    | inr e ↦ inl (sym e)
  ];
  closed = λ place h. elim h [
    | inl e ↦ inl (subst (λ q. Contains (from ∷ []) q) (sym e) (Contains-push [] from))
    | inr marked ↦ absurd (false≢true (sym (none place) ∙ marked))
  ];
}

module _ (graph : List (List ℕ)) (from place : ℕ) (marks new : List Bool) (waiting after : List ℕ)
    (a : AreSpreading graph from marks (waiting ++ place ∷ []))
    (s : Spread (targets graph place) marks new waiting after) where
  -- a place that was marked now
  led_here : (to : ℕ) → Contains (targets graph place) to → leads_within (suc (mark_count marks)) graph from to ≡ true
  led_here to h =
      elim (a.waits place (Contains-push waiting place)) [
        | inl e ↦ one_edge (mark_count marks) graph from to (subst (λ q. Contains (targets graph q) to) e h)
        | inr marked ↦ one_further (mark_count marks) graph from place to (a.led place marked) h
      ]

  closed_still : (p : ℕ) → (p ≡ from) ⊎ (is_marked marks p ≡ true)
      → Contains after p ⊎ (list_all (is_done new) (targets graph p) ≡ true)
  closed_still p h =
      elim (a.closed p h) [
        | inl waits ↦ elim (Contains-push_cases waiting place p waits) [
          | inl still ↦ inl (s.kept p still)
          | inr e ↦ inr (subst (λ q. list_all (is_done new) (targets graph q) ≡ true) e s.told)
        ]
        | inr all ↦ inr (all_weaker (is_done marks) (is_done new) (grown_done marks new s.size s.grown)
            (targets graph p) all)
      ]

  pub looked : AreSpreading graph from new after
  looked = record {
    size = s.size ∙ a.size;
    led = λ to marked. elim (s.fresh to marked) [
      | inl old ↦ within_more (mark_count marks) (mark_count new) graph from to (a.led to old) s.more
      | inr now ↦ within_more (suc (mark_count marks)) (mark_count new) graph from to (led_here to now.0)
          (omega (arith, now.2))
    ];
    waits = λ p waits. elim (s.waits p waits) [
      | inl before ↦ elim (a.waits p (Contains-append_left waiting (place ∷ []) p before)) [
        | inl e ↦ inl e
        | inr marked ↦ inr (s.grown p marked)
      ]
      | inr marked ↦ inr marked
    ];
    closed = λ p h. elim h [
      | inl e ↦ closed_still p (inl e)
      | inr marked ↦ elim (s.fresh p marked) [
        | inl old ↦ closed_still p (inr old)
        | inr now ↦ inl now.1
      ]
    ];
  }

-- nothing waits
ended_closed : (graph : List (List ℕ)) (from : ℕ) (marks : List Bool) (waiting : List ℕ)
    → AreSpreading graph from marks waiting → length waiting ≡ 0 → (place : ℕ)
    → (place ≡ from) ⊎ (is_marked marks place ≡ true) → list_all (is_done marks) (targets graph place) ≡ true
ended_closed graph from marks waiting a none place h =
    elim (a.closed place h) [ inl waits ↦ absurd (omega (arith, waits.1, none)) | inr all ↦ all ]

pub ended : (graph : List (List ℕ)) (from : ℕ) (marks : List Bool) (waiting : List ℕ)
    → AreSpreading graph from marks waiting → length waiting ≡ 0 → AreReached graph from marks
ended graph from marks waiting a none =
    let closed : (place : ℕ) → is_done marks place ≡ true → list_all (is_done marks) (targets graph place) ≡ true =
    λ place done. elim (done_cases marks place done) [
      | inl marked ↦ ended_closed graph from marks waiting a none place (inr marked)
      | inr past ↦ past_all graph marks place (omega (arith, a.size))
    ] in
    record {
      size = a.size;
      led = λ to marked.
          within_more (mark_count marks) (length graph) graph from to (a.led to marked)
          (omega (arith, count_by-le-length (λ (mark : Bool). mark) marks, a.size));
      all = λ to e.
          led_done graph marks to closed (length graph) from
          (ended_closed graph from marks waiting a none from (inl refl)) e;
    }
