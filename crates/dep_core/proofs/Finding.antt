-- The chains of the awaited nodes, as one of them changes.
use Rattle.std.proofs.Common.{◌≡◌, inl, inr, Bool, true, false, cond, List, [], ◌∷◌, ◌++◌, length, Option, Some}
use Rattle.std.proofs.Common.{None}
use Rattle.std.proofs.Common.{unwrap_or, Ordering, refl, sym, ap, ◌∙◌, subst, arith}
use Rattle.std.proofs.lemmas.List.{length-map}
use Rattle.std.specs.Cmp.{IsTotalOrder}
use Rattle.std.specs.Ordering.{is_eq}
use Rattle.std.specs.BTreeMap.{BTreeMap, get, is_at}
use Rattle.std.specs.Map.{lookup}
use Rattle.link_lists.specs.declared.chain.Chain.{Chain}
use Rattle.link_lists.specs.Chains.{places, AreApart, IsAmong, IsSound}
use Rattle.dep_core.specs.declared.waiting.Waiter.{Waiter}
use Rattle.dep_core.specs.declared.waiting.WaiterRecord.{WaiterRecord}
use Rattle.dep_core.specs.Awaited.{awaited, held_in, waiters_at, waiters_in, waiting_links, AreChained, IsChainOf}
use Rattle.dep_core.specs.Awaited.{Spares}
use Rattle.dep_core.specs.UnderWay.{waiters_of}
use Rattle.dep_core.proofs.Adding.{is_eq_true}
use Rattle.dep_core.proofs.Awaiting.{among_last_cases, joined_within, ComesTo}

module _ {N : Type 0} where
  -- the waiters of a chain that may be there
  abbrev pub found_in : List (WaiterRecord N) → Option (Chain 2) → List (Waiter N)
  found_in records None = []
  found_in records (Some chain) = waiters_in records chain

  pub waiters_found : (cmp : N → N → Ordering) (records : List (WaiterRecord N)) (es : List (N × Chain 2)) (b : N)
      → waiters_of cmp (awaited records es) b ≡ found_in records (lookup (is_at (cmp b)) es)
  waiters_found cmp records [] b = refl
  waiters_found cmp records (e ∷ es) b = by (is_eq (cmp b e.0)) (lookup (is_at (cmp b)) (awaited records es))
      (lookup (is_at (cmp b)) es) (waiters_found cmp records es b)
    where
      by : (t : Bool) (o : Option (List (Waiter N))) (p : Option (Chain 2)) → unwrap_or o [] ≡ found_in records p
          → unwrap_or (cond t (Some (waiters_in records e.1)) o) [] ≡ found_in records (cond t (Some e.1) p)
      by true o p h = refl
      by false o p h = h

  lookup_same : {X : Type 0} (f g : N → Bool) → ((k : N) → f k ≡ g k) → (es : List (N × X)) → lookup f es ≡ lookup g es
  lookup_same f g same [] = refl
  lookup_same f g same (e ∷ es) =
      ap (λ t. cond t (Some e.1) (lookup f es)) (same e.0) ∙ ap (cond (g e.0) (Some e.1)) (lookup_same f g same es)

  module _ (cmp : N → N → Ordering) (total : IsTotalOrder cmp) (records new : List (WaiterRecord N))
      (chains : BTreeMap N (Chain 2)) (node : N) (chained : AreChained cmp (waiting_links records) chains) where
    -- the chains of other nodes are as they were
    abbrev pub StayOthers : Type 0
    StayOthers = (b : N) (c : Chain 2) → is_eq (cmp node b) ≡ false → get cmp chains b ≡ Some c
        → IsSound c (waiting_links new) × (places c (waiting_links new) ≡ places c (waiting_links records))
        × (waiters_in new c ≡ waiters_in records c)

    -- the chain of the node, now
    abbrev pub IsNow : Chain 2 → Type 0
    IsNow c = IsSound c (waiting_links new) × ((b : N) (d : Chain 2) → is_eq (cmp node b) ≡ false
        → get cmp chains b ≡ Some d → AreApart (places c (waiting_links new)) (places d (waiting_links new)))

    -- ---- the chain that there was
    pub chain_sound : (o : Option (Chain 2)) → get cmp chains node ≡ o → (chain : Chain 2) → IsChainOf o chain
        → IsSound chain (waiting_links records)
    chain_sound None e chain of = (of (waiting_links records)).0
    chain_sound (Some c) e chain of = subst (λ d. IsSound d (waiting_links records)) (sym of) (chained.sound node c e)

    pub chain_waiters : (o : Option (Chain 2)) (chain : Chain 2) → IsChainOf o chain
        → waiters_in records chain ≡ found_in records o
    chain_waiters None chain of = ap (waiters_at (held_in records)) (of (waiting_links records)).1
    chain_waiters (Some c) chain of = ap (waiters_in records) of

    pub chain_apart : (o : Option (Chain 2)) → get cmp chains node ≡ o → (chain : Chain 2) → IsChainOf o chain
        → (b : N) (c : Chain 2) → is_eq (cmp node b) ≡ false → get cmp chains b ≡ Some c
        → AreApart (places c (waiting_links records)) (places chain (waiting_links records))
    chain_apart None e chain of b c ne at p h k = subst (IsAmong p) (of (waiting_links records)).1 k
    chain_apart (Some d) e chain of b c ne at p h k = chained.apart node b d c ne e at p
        (subst (λ x. IsAmong p (places x (waiting_links records))) of k) h

    -- ---- what there is after
    abbrev pub IsUpdated : BTreeMap N (Chain 2) → Option (Chain 2) → Type 0
    IsUpdated chains' now = (q : N) → get cmp chains' q ≡ cond (is_eq (cmp node q)) now (get cmp chains q)

    module _ (stay : StayOthers) (chains' : BTreeMap N (Chain 2)) (now : Option (Chain 2))
        (updated : IsUpdated chains' now) (here : (c : Chain 2) → now ≡ Some c → IsNow c) where
      sound_by : (b : N) (c : Chain 2) (t : Bool) → is_eq (cmp node b) ≡ t
          → cond t now (get cmp chains b) ≡ Some c → IsSound c (waiting_links new)
      sound_by b c true is e = (here c e).0
      sound_by b c false is e = (stay b c is e).0

      apart_by : (b c : N) (one other : Chain 2) (t u : Bool) → is_eq (cmp b c) ≡ false → is_eq (cmp node b) ≡ t
          → is_eq (cmp node c) ≡ u → cond t now (get cmp chains b) ≡ Some one
          → cond u now (get cmp chains c) ≡ Some other
          → AreApart (places one (waiting_links new)) (places other (waiting_links new))
      apart_by b c one other true true ne is is' e f p h k =
          let both : true ≡ false =
          sym is' ∙ ap is_eq (total.congr node b c (is_eq_true (cmp node b) is)) ∙ ne in
          cc
      apart_by b c one other true false ne is is' e f p h k = (here one e).1 c other is' f p h k
      apart_by b c one other false true ne is is' e f p h k = (here other f).1 b one is e p k h
      apart_by b c one other false false ne is is' e f p h k = chained.apart b c one other ne e f p
          (subst (IsAmong p) (stay b one is e).1 h) (subst (IsAmong p) (stay c other is' f).1 k)

      pub chained_after : AreChained cmp (waiting_links new) chains'
      chained_after = record {
        sound = λ b c e. sound_by b c (is_eq (cmp node b)) refl (sym (updated b) ∙ e);
        apart = λ b c one other ne e f. apart_by b c one other (is_eq (cmp node b)) (is_eq (cmp node c)) ne refl refl
            (sym (updated b) ∙ e) (sym (updated c) ∙ f);
      }

      found_by : (b : N) (o : Option (Chain 2)) → is_eq (cmp node b) ≡ false → get cmp chains b ≡ o
          → found_in new o ≡ found_in records o
      found_by b None ne e = refl
      found_by b (Some c) ne e = (stay b c ne e).2

      pub others_after : (other : N) → is_eq (cmp node other) ≡ false
          → waiters_of cmp (awaited new chains'.entries) other ≡ waiters_of cmp (awaited records chains.entries) other
      others_after other ne =
          waiters_found cmp new chains'.entries other
          ∙ ap (found_in new) (updated other ∙ ap (λ t. cond t now (get cmp chains other)) ne)
          ∙ found_by other (get cmp chains other) ne refl ∙ sym (waiters_found cmp records chains.entries other)

    -- where none was there, none is there under an equal node
    pub absent : (chains' : BTreeMap N (Chain 2)) → chains'.entries ≡ chains.entries → get cmp chains node ≡ None
        → IsUpdated chains' None
    absent chains' same none q = ap (λ es. lookup (is_at (cmp q)) es) same ∙ by (is_eq (cmp node q)) refl
      where
        by : (t : Bool) → is_eq (cmp node q) ≡ t → get cmp chains q ≡ cond t None (get cmp chains q)
        by false is = refl
        by true is =
            lookup_same (is_at (cmp q)) (is_at (cmp node))
            (λ k. ap is_eq (sym (total.congr node q k (is_eq_true (cmp node q) is)))) chains.entries ∙ none

    -- ---- a waiter comes to the chain
    module _ (chain longer : Chain 2) (w : Waiter N) (of : IsChainOf (get cmp chains node) chain)
        (comes : ComesTo records new chain longer w) (sound : IsSound longer (waiting_links new)) where
      spared_from : (b : N) (c : Chain 2) → is_eq (cmp node b) ≡ false → get cmp chains b ≡ Some c
          → AreApart (places c (waiting_links records)) (places chain (waiting_links records) ++ length records ∷ [])
      spared_from b c ne at p h k =
          elim (among_last_cases p (length records) (places chain (waiting_links records)) k) [
            | inl before ↦ chain_apart (get cmp chains node) refl chain of b c ne at p h before
            | inr e ↦ absurd (omega (
              arith,
              e,
              joined_within (waiting_links records) None (places c (waiting_links records)) None p
                  (chained.sound b c at).0
                  h,
              length-map records (λ r. r.waiting),
            ))
          ]

      pub comes_stay : StayOthers
      comes_stay b c ne at = comes.spares c (chained.sound b c at) (spared_from b c ne at)

      pub comes_now : (c : Chain 2) → Some longer ≡ Some c → IsNow c
      comes_now c e =
          let same : longer ≡ c = cc in
          subst IsNow same (
            sound,
            λ b d ne at p h k. spared_from b d ne at p (subst (IsAmong p) (comes_stay b d ne at).1 k)
                (subst (IsAmong p) comes.places_are h),
          )

      pub comes_here : (chains' : BTreeMap N (Chain 2)) → get cmp chains' node ≡ Some longer
          → waiters_of cmp (awaited new chains'.entries) node
          ≡ waiters_of cmp (awaited records chains.entries) node ++ w ∷ []
      comes_here chains' at =
          waiters_found cmp new chains'.entries node ∙ ap (found_in new) at ∙ comes.waiters
          ∙ ap (λ l. l ++ w ∷ []) (chain_waiters (get cmp chains node) chain of
          ∙ sym (waiters_found cmp records chains.entries node))

    -- ---- the waiters of the chain are told
    pub told_stay : (chain : Chain 2) → IsChainOf (get cmp chains node) chain
        → Spares records new (places chain (waiting_links records)) → StayOthers
    told_stay chain of spares b c ne at =
        spares c (chained.sound b c at) (chain_apart (get cmp chains node) refl chain of b c ne at)

    pub none_now : (c : Chain 2) → None ≡ Some c → IsNow c
    none_now c e = cc
