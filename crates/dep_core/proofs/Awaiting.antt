-- Chains of waiters in a pool: as waiters come, and as they are told.
use Rattle.std.proofs.Common.{◌≡◌, ◌⊎◌, inl, inr, ℕ, ◌<◌, List, [], ◌∷◌, ◌++◌}
use Rattle.std.proofs.Common.{length, map, get_or, set, Option, Some, None}
use Rattle.std.proofs.Common.{refl, sym, ap, ◌∙◌, subst, arith, get_or-set_other}
use Rattle.std.proofs.lemmas.List.{length-map, map-append, get_or_append_left, get_or_push}
use Rattle.link_lists.specs.declared.link.Link.{Link}
use Rattle.link_lists.specs.declared.chain.Chain.{Chain}
use Rattle.link_lists.specs.Links.{free}
use Rattle.link_lists.specs.Chains.{places, AreDistinct, AreJoined, IsAmong, IsSound, KeepsOthers}
use Rattle.dep_core.specs.declared.waiting.Waiter.{Waiter}
use Rattle.dep_core.specs.declared.waiting.WaiterRecord.{WaiterRecord}
use Rattle.dep_core.specs.Awaited.{held_in, in_front, waiters_at, waiters_in, waiting_links}
use Rattle.dep_core.specs.Awaited.{Spares}
use Rattle.dep_core.proofs.Chained.{told_by_rests}

-- ---- places
pub among_last_cases : (p q : ℕ) (ps : List ℕ) → IsAmong p (ps ++ q ∷ []) → IsAmong p ps ⊎ (p ≡ q)
among_last_cases p q [] h = elim h [ inl e ↦ inr e | inr none ↦ absurd none ]
among_last_cases p q (r ∷ ps) h = elim h [
  | inl e ↦ inl (inl e)
  | inr rest ↦ elim (among_last_cases p q ps rest) [ inl before ↦ inl (inr before) | inr e ↦ inr e ]
]

pub joined_within : (links : List Link) (before : Option ℕ) (ps : List ℕ) (after : Option ℕ) (p : ℕ)
    → AreJoined links before ps after → IsAmong p ps → p < length links
joined_within links before [] after p h among = absurd among
joined_within links before (q ∷ ps) after p h among = elim among [
  | inl e ↦ omega (arith, e, h.0)
  | inr rest ↦ joined_within links (Some q) ps after p h.2 rest
]

module _ {N : Type 0} where
  abbrev pub told_record : Waiter N → WaiterRecord N
  told_record w = record { waiter = Some w; waiting = free }

  -- all but the link
  abbrev pub unchained : WaiterRecord N → WaiterRecord N
  unchained r = record r { waiting = free }

  -- ---- what is held at places
  front_append : (o : Option (Waiter N)) (ws vs : List (Waiter N)) → in_front o ws ++ vs ≡ in_front o (ws ++ vs)
  front_append None ws vs = refl
  front_append (Some w) ws vs = refl

  at_push : (held : List (Option (Waiter N))) (ps : List ℕ) (q : ℕ)
      → waiters_at held (ps ++ q ∷ []) ≡ waiters_at held ps ++ in_front (get_or held q None) []
  at_push held [] q = refl
  at_push held (p ∷ ps) q =
      ap (in_front (get_or held p None)) (at_push held ps q)
      ∙ sym (front_append (get_or held p None) (waiters_at held ps) (in_front (get_or held q None) []))

  -- the same is held at these places
  at_same : (held held' : List (Option (Waiter N))) (ps : List ℕ)
      → ((p : ℕ) → IsAmong p ps → get_or held' p None ≡ get_or held p None)
      → waiters_at held' ps ≡ waiters_at held ps
  at_same held held' [] same = refl
  at_same held held' (p ∷ ps) same =
      ap (λ o. in_front o (waiters_at held' ps)) (same p (inl refl))
      ∙ ap (in_front (get_or held p None)) (at_same held held' ps (λ q h. same q (inr h)))

  -- ---- one step after another
  pub spares_none : (records : List (WaiterRecord N)) (ps : List ℕ) → Spares records records ps
  spares_none records ps other sound apart = (sound, refl, refl)

  pub spares_more : (records mid new : List (WaiterRecord N)) (ps qs : List ℕ) → Spares records mid ps
      → Spares mid new qs → ((p : ℕ) → IsAmong p qs → IsAmong p ps) → Spares records new ps
  spares_more records mid new ps qs first second within other sound apart =
      let a = first other sound apart in
      let b = second other a.0 (λ p h k. apart p (subst (IsAmong p) a.1 h) (within p k)) in
      (b.0, b.1 ∙ a.1, b.2 ∙ a.2)

  -- ---- a waiter comes
  pub record ComesTo (records new : List (WaiterRecord N)) (chain longer : Chain 2) (w : Waiter N) : Type 0 where
    pub places_are : places longer (waiting_links new)
        ≡ places chain (waiting_links records) ++ length records ∷ []
    pub waiters : waiters_in new longer ≡ waiters_in records chain ++ w ∷ []
    pub spares : Spares records new (places chain (waiting_links records) ++ length records ∷ [])

  module _ (records pushed new : List (WaiterRecord N)) (chain longer : Chain 2) (w : Waiter N) (at : ℕ)
      (grows : (c : Chain 2) → IsSound c (waiting_links records) → IsSound c (waiting_links records ++ free ∷ []))
      (grows_places : (c : Chain 2) → IsSound c (waiting_links records)
      → places c (waiting_links records ++ free ∷ []) ≡ places c (waiting_links records))
      (is : pushed ≡ records ++ told_record w ∷ []) (at-is : at ≡ length records)
      (sound : IsSound chain (waiting_links records))
      (rests : map unchained new ≡ map unchained pushed)
      (order : places longer (waiting_links new) ≡ places chain (waiting_links pushed) ++ at ∷ [])
      (others : KeepsOthers 2 (waiting_links pushed) (waiting_links new) (places chain (waiting_links pushed) ++ at ∷
      []))
    where
      links_are : waiting_links pushed ≡ waiting_links records ++ free ∷ []
      links_are = ap waiting_links is ∙ map-append (λ r. r.waiting) records (told_record w ∷ [])

      held_are : held_in new ≡ held_in records ++ Some w ∷ []
      held_are = told_by_rests (λ r. r.waiter) unchained (λ r. refl) pushed new rests
          ∙ ap held_in is ∙ map-append (λ r. r.waiter) records (told_record w ∷ [])

      same_places : (c : Chain 2) → IsSound c (waiting_links records)
          → places c (waiting_links pushed) ≡ places c (waiting_links records)
      same_places c s = ap (places c) links_are ∙ grows_places c s

      within : (c : Chain 2) → IsSound c (waiting_links records) → (p : ℕ)
          → IsAmong p (places c (waiting_links records)) → p < length records
      within c s p among = omega (
        arith,
        joined_within (waiting_links records) None (places c (waiting_links records)) None p s.0 among,
        length-map records (λ r. r.waiting),
      )

      same_waiters : (c : Chain 2) → IsSound c (waiting_links records)
          → waiters_at (held_in new) (places c (waiting_links records)) ≡ waiters_in records c
      same_waiters c s = at_same (held_in records) (held_in new) (places c (waiting_links records)) (λ p among.
          ap (λ h. get_or h p None) held_are
          ∙ get_or_append_left (held_in records) (Some w ∷ []) None p (omega (
            arith,
            within c s p among,
            length-map records (λ r. r.waiter),
          )))

      pub comes_to : ComesTo records new chain longer w
      comes_to =
          let order' : places longer (waiting_links new)
          ≡ places chain (waiting_links records) ++ length records ∷ [] =
          order ∙ ap (λ l. l ++ at ∷ []) (same_places chain sound)
          ∙ ap (λ k. places chain (waiting_links records) ++ k ∷ []) at-is in
          let last : get_or (held_in new) (length records) None ≡ Some w =
          ap (λ h. get_or h (length records) None) held_are
          ∙ get_or_push (held_in records) (Some w) None (length records) (length-map records (λ r. r.waiter)) in
          record {
            places_are = order';
            waiters = ap (waiters_at (held_in new)) order'
                ∙ at_push (held_in new) (places chain (waiting_links records)) (length records)
                ∙ ap (λ l. l ++ in_front (get_or (held_in new) (length records) None) []) (same_waiters chain sound)
                ∙ ap (λ o. waiters_in records chain ++ in_front o []) last;
            spares = λ other s apart.
                let kept = others other (subst (IsSound other) (sym links_are) (grows other s)) (λ p h k.
                let here : IsAmong p (places other (waiting_links records)) =
                subst (IsAmong p) (same_places other s) h in
                elim (among_last_cases p at (places chain (waiting_links pushed)) k) [
                  | inl before ↦ apart p here (among_before p (subst (IsAmong p) (same_places chain sound) before))
                  | inr e ↦ absurd (omega (arith, e, at-is, within other s p here))
                ]) in
                let same : places other (waiting_links new) ≡ places other (waiting_links records) =
                kept.1 ∙ same_places other s in
                (kept.0, same, ap (waiters_at (held_in new)) same ∙ same_waiters other s);
          }
        where
          among_left : (p : ℕ) (ps qs : List ℕ) → IsAmong p ps → IsAmong p (ps ++ qs)
          among_left p [] qs among = absurd among
          among_left p (r ∷ ps) qs among = elim among [ inl e ↦ inl e | inr rest ↦ inr (among_left p ps qs rest) ]

          among_before : (p : ℕ) → IsAmong p (places chain (waiting_links records))
              → IsAmong p (places chain (waiting_links records) ++ length records ∷ [])
          among_before p = among_left p (places chain (waiting_links records)) (length records ∷ [])

  -- ---- the first waiter of a chain is taken
  pub record TakesFirst (records new : List (WaiterRecord N)) (chain left : Chain 2) (held : Option (Waiter N)) : Type 0
    where
      pub sound : IsSound left (waiting_links new)
      pub waiters : waiters_in records chain ≡ in_front held (waiters_in new left)
      pub spares : Spares records new (places chain (waiting_links records))
      pub places_are : (at : ℕ) × (places chain (waiting_links records) ≡ at ∷ places left (waiting_links new))

  pub takes_first : (records mid new : List (WaiterRecord N)) (chain left : Chain 2) (at : ℕ)
      (held : Option (Waiter N)) → IsSound chain (waiting_links records)
      → places chain (waiting_links records) ≡ at ∷ places left (waiting_links mid)
      → IsSound left (waiting_links mid) → map unchained mid ≡ map unchained records
      → KeepsOthers 2 (waiting_links records) (waiting_links mid) (places chain (waiting_links records))
      → held ≡ get_or (held_in mid) at None → held_in new ≡ set (held_in mid) at None
      → waiting_links new ≡ waiting_links mid → TakesFirst records new chain left held
  takes_first records mid new chain left at held sound order sound' rests others held-is taken links =
      let mid-held : held_in mid ≡ held_in records =
      told_by_rests (λ r. r.waiter) unchained (λ r. refl) records mid rests in
      let out : ¬ IsAmong at (places left (waiting_links mid)) =
      (subst AreDistinct order sound.1).0 in
      let same : (p : ℕ) → ¬ (p ≡ at) → get_or (held_in new) p None ≡ get_or (held_in records) p None = λ p ne.
      ap (λ h. get_or h p None) taken ∙ get_or-set_other (held_in mid) at p None None ne
      ∙ ap (λ h. get_or h p None) mid-held in
      let rest : waiters_in new left ≡ waiters_at (held_in records) (places left (waiting_links mid)) =
      ap (λ ls. waiters_at (held_in new) (places left ls)) links
      ∙ at_same (held_in records) (held_in new) (places left (waiting_links mid)) (λ p among.
      same p (λ e. out (subst (λ n. IsAmong n (places left (waiting_links mid))) e among))) in
      record {
        sound = subst (IsSound left) (sym links) sound';
        waiters = ap (waiters_at (held_in records)) order
            ∙ ap (in_front (get_or (held_in records) at None)) (sym rest)
            ∙ ap (λ o. in_front o (waiters_in new left)) (sym (held-is ∙ ap (λ h. get_or h at None) mid-held));
        spares = λ other s apart.
            let kept = others other s apart in
            let where-it-is : places other (waiting_links new) ≡ places other (waiting_links records) =
            ap (places other) links ∙ kept.1 in (
              subst (IsSound other) (sym links) kept.0,
              where-it-is,
              ap (waiters_at (held_in new)) where-it-is
                  ∙ at_same (held_in records) (held_in new) (places other (waiting_links records)) (λ p among.
                  same p (λ e. apart p among (subst (IsAmong p) (sym order) (inl e)))),
            );
        places_are = (at, order ∙ ap (λ ls. at ∷ places left ls) (sym links));
      }

  -- no waiter is there to be taken
  pub popped_none : (records new : List (WaiterRecord N)) (chain : Chain 2)
      → places chain (waiting_links records) ≡ [] → map unchained new ≡ map unchained records
      → KeepsOthers 2 (waiting_links records) (waiting_links new) (places chain (waiting_links records))
      → Spares records new (places chain (waiting_links records))
  popped_none records new chain none rests others other sound apart =
      let kept = others other sound apart in (
        kept.0,
        kept.1,
        ap (waiters_at (held_in new)) kept.1 ∙ ap (λ h. waiters_at h (places other (waiting_links records)))
            (told_by_rests (λ r. r.waiter) unchained (λ r. refl) records new rests),
      )
