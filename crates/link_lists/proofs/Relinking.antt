-- What adding a place to a chain and taking one out do to its places.
use Rattle.std.proofs.Common.{◌≡◌, ℕ, ◌<◌, ◌≤◌, inl, inr, true, false, if◌then◌else◌, List, [], ◌∷◌, ◌++◌, length, set}
use Rattle.std.proofs.Common.{Option, Some, None, refl, sym, ap, ◌∙◌, subst, arith, length-set, eqb, get_or-set_same}
use Rattle.std.proofs.Common.{get_or-set_other, ◌||◌, append-nil}
use Rattle.std.specs.List.{AllByRecursion, IsDistinct, list_any}
use Rattle.std.specs.Option.{option_or}
use Rattle.std.proofs.lemmas.Bool.{ne_eqb}
use Rattle.std.proofs.lemmas.Bool.Decides.{eqb_tells}
use Rattle.std.proofs.lemmas.Map.Steps.{length-le_from_distinct_below}
use Rattle.link_lists.specs.declared.link.Link.{Link}
use Rattle.link_lists.specs.declared.chain.Chain.{Chain}
use Rattle.link_lists.specs.Links.{free, between, end_of, link_at, with_after, with_before}
use Rattle.link_lists.specs.Chains.{followed, places, IsAmong, AreDistinct, first_or, last_or, AreJoined, IsChain}
use Rattle.link_lists.specs.Chains.{IsSound, AreSame, without, KeepsOthers}
use Rattle.link_lists.proofs.Joining.{among_left, among_right, distinct_left, distinct_right, distinct_apart}
use Rattle.link_lists.proofs.Joining.{distinct_join, distinct_without, last_or-append, joined_left, joined_right}
use Rattle.link_lists.proofs.Joining.{joined_both, joined_same, joined_held, joined_within, last_among, joined_before}
use Rattle.link_lists.proofs.Joining.{joined_behind, followed_is}

all_differ : (p : ℕ) (ps : List ℕ) → ¬ IsAmong p ps → AllByRecursion (λ q. eqb p q ≡ false) ps
all_differ p [] absent = tt
all_differ p (q ∷ qs) absent = (ne_eqb p q (λ e. absent (inl e)), all_differ p qs (λ h. absent (inr h)))

to_distinct : (ps : List ℕ) → AreDistinct ps → IsDistinct eqb ps
unfolding IsDistinct
to_distinct [] d = tt
to_distinct (p ∷ ps) d = (all_differ p ps d.0, to_distinct ps d.1)

any_among : (p : ℕ) (ps : List ℕ) → list_any (eqb p) ps ≡ true → IsAmong p ps
any_among p [] e = cc
any_among p (q ∷ qs) e = elim (eqb_tells p q) [
  | inl same ↦ inl same.1
  | inr other ↦ inr (any_among p qs (ap (λ b. b || list_any (eqb p) qs) (sym other.0) ∙ e))
]

-- a pool has no fewer items than a chain has places
pub short : (links : List Link) (ps : List ℕ) → AreJoined links None ps None → AreDistinct ps → length ps ≤ length links
short links ps joined distinct =
    length-le_from_distinct_below ps (length links) (to_distinct ps distinct)
    (λ q e. joined_within links None ps None q joined (any_among q ps e))

pub places_are : {K : ℕ} (chain : Chain K) (links : List Link) (ps : List ℕ) → IsChain chain links ps →
    places chain links ≡ ps
places_are chain links ps is =
    ap (followed links (length links)) is.2 ∙ followed_is links None ps (length links) is.0 (short links ps is.0 is.1)

pub sound : {K : ℕ} (chain : Chain K) (links : List Link) (ps : List ℕ) → IsChain chain links ps → IsSound chain links
sound chain links ps is = subst (IsChain chain links) (sym (places_are chain links ps is)) is

pub keeps_others : (K : ℕ) (links links' : List Link) (ps : List ℕ) → AreSame links links' ps →
    KeepsOthers K links links' ps
keeps_others K links links' ps same = λ other is apart.
    let qs = places other links in
    let still : IsChain other links' qs =
    (joined_same links links' None qs None is.0 same.0 (λ p among. same.1 p (apart p among)), is.1, is.2, is.3) in
    (sound other links' qs still, places_are other links' qs still)

-- what a change of chain and links comes to: the new places, and the same links outside of the old ones
pub record Became (K : ℕ) (links : List Link) (chain' : Chain K) (links' : List Link) (ps' touched : List ℕ) : Type 0
  where
    pub order : places chain' links' ≡ ps'
    pub agrees : IsSound chain' links'
    pub same : AreSame links links' touched
    pub others : KeepsOthers K links links' touched

became : {K : ℕ} (links : List Link) (chain' : Chain K) (links' : List Link) (ps' touched : List ℕ) →
    IsChain chain' links' ps'
    → AreSame links links' touched → Became K links chain' links' ps' touched
became {K} links chain' links' ps' touched is same = record {
  order = places_are chain' links' ps' is;
  agrees = sound chain' links' ps' is;
  same = same;
  others = keeps_others K links links' touched same;
}

after_off : (links : List Link) (o after : Option ℕ) (p : ℕ) → ¬ (o ≡ Some p) →
    link_at (with_after links o after) p ≡ link_at links p
after_off links None after p ne = refl
after_off links (Some q) after p ne =
    get_or-set_other links q p (record (link_at links q) { after = after }) free (λ e. ne (ap Some (sym e)))

after_at : (links : List Link) (o after : Option ℕ) (p : ℕ) → o ≡ Some p → p < length links
    → link_at (with_after links o after) p ≡ record (link_at links p) { after = after }
after_at links o after p e lt =
    ap (λ q. link_at (with_after links q after) p) e ∙ get_or-set_same links p (record (link_at links p) {
      after =
          after;
    }) free lt

pub after_long : (links : List Link) (o after : Option ℕ) → length (with_after links o after) ≡ length links
after_long links None after = refl
after_long links (Some q) after = length-set links q (record (link_at links q) { after = after })

before_off : (links : List Link) (before o : Option ℕ) (p : ℕ) → ¬ (o ≡ Some p) →
    link_at (with_before links before o) p ≡ link_at links p
before_off links before None p ne = refl
before_off links before (Some q) p ne =
    get_or-set_other links q p (record (link_at links q) { before = before }) free (λ e. ne (ap Some (sym e)))

before_at : (links : List Link) (before o : Option ℕ) (p : ℕ) → o ≡ Some p → p < length links
    → link_at (with_before links before o) p ≡ record (link_at links p) { before = before }
before_at links before o p e lt =
    ap (λ q. link_at (with_before links before q) p) e ∙ get_or-set_same links p (record (link_at links p) {
      before =
          before;
    }) free lt

pub before_long : (links : List Link) (before o : Option ℕ) → length (with_before links before o) ≡ length links
before_long links before None = refl
before_long links before (Some q) = length-set links q (record (link_at links q) { before = before })

pub last_is_among : (ps : List ℕ) (z : ℕ) → last_or None ps ≡ Some z → IsAmong z ps
last_is_among ps z e = elim (last_among None ps z e) [ inl none ↦ cc | inr h ↦ h ]

pub first_is_among : (ps : List ℕ) (z : ℕ) → first_or ps None ≡ Some z → IsAmong z ps
first_is_among [] z e = cc
first_is_among (p ∷ ps) z e = let same : z ≡ p = cc in inl same

eqb_same : (n : ℕ) → eqb n n ≡ true
eqb_same n = elim (eqb_tells n n) [ inl same ↦ same.0 | inr other ↦ absurd (other.1 refl) ]

first_pushed : (ps : List ℕ) (at : ℕ) → option_or (first_or ps None) (Some at) ≡ first_or (ps ++ at ∷ []) None
first_pushed [] at = refl
first_pushed (p ∷ ps) at = refl

-- a place that isn't held is added at the end
module _ {K : ℕ} (chain : Chain K) (links : List Link) (at : ℕ) (within : at < length links) (unheld : (link_at links
    at).held ≡ false)
    (ps : List ℕ) (is : IsChain chain links ps) where
  abbrev marked : List Link
  marked = set links at (between chain.last None)

  abbrev pub pushed_links : List Link
  pushed_links = with_after marked chain.last (Some at)

  abbrev pub pushed_chain : Chain K
  pushed_chain = record { first = option_or chain.first (Some at); last = Some at }

  out : ¬ IsAmong at ps
  out h = let never : false ≡ true = sym unheld ∙ joined_held links None ps None at is.0 h in cc

  differs : (p : ℕ) → IsAmong p ps → ¬ (p ≡ at)
  differs p h e = out (subst (λ n. IsAmong n ps) e h)

  off_marked : (p : ℕ) → ¬ (p ≡ at) → link_at marked p ≡ link_at links p
  off_marked p ne = get_or-set_other links at p (between chain.last None) free ne

  long_marked : length marked ≡ length links
  long_marked = length-set links at (between chain.last None)

  long : length pushed_links ≡ length links
  long = after_long marked chain.last (Some at) ∙ long_marked

  front : AreJoined pushed_links None ps (Some at)
  front =
      joined_before links pushed_links None ps None (Some at) is.0 is.1 long
      (λ p h ne. after_off marked chain.last (Some at) p (λ e. ne (sym is.3 ∙ e)) ∙ off_marked p (differs p h))
      (λ z e. let among = last_is_among ps z e in
      after_at marked chain.last (Some at) z (is.3 ∙ e) (omega (
        arith,
        joined_within links None ps None z is.0 among,
        long_marked,
      ))
      ∙ ap (λ (l : Link). record l { after = Some at }) (off_marked z (differs z among)))

  end : link_at pushed_links at ≡ between (last_or None ps) None
  end = after_off marked chain.last (Some at) at (λ e. out (last_is_among ps at (sym is.3 ∙ e)))
      ∙ get_or-set_same links at (between chain.last None) free within ∙ ap (λ l. between l None) is.3

  pushed_is : IsChain pushed_chain pushed_links (ps ++ at ∷ [])
  pushed_is = (
    joined_both pushed_links None ps (at ∷ []) None front (omega (arith, within, long), end, tt),
    distinct_join ps (at ∷ []) is.1 (
      (λ h. h),
      tt,
    ) (λ p h there. elim there [ inl e ↦ differs p h e | inr none ↦ none ]),
    ap (λ f. option_or f (Some at)) is.2 ∙ first_pushed ps at,
    sym (last_or-append None ps (at ∷ [])),
  )

  pushed_same : AreSame links pushed_links (ps ++ at ∷ [])
  pushed_same = (
    long,
    λ p absent.
        after_off marked chain.last (Some at) p (λ e. absent (among_left p ps (at ∷ []) (last_is_among ps p (sym is.3
        ∙ e))))
        ∙ off_marked p (λ e. absent (among_right p ps (at ∷ []) (inl e))),
  )

  pub pushed : Became K links pushed_chain pushed_links (ps ++ at ∷ []) (ps ++ at ∷ [])
  pushed = became links pushed_chain pushed_links (ps ++ at ∷ []) (ps ++ at ∷ []) pushed_is pushed_same

pub without_outside : (p : ℕ) (ps : List ℕ) → ¬ IsAmong p ps → without p ps ≡ ps
without_outside p [] absent = refl
without_outside p (q ∷ qs) absent =
    ap (λ b. (if b then without p qs else q ∷ without p qs)) (ne_eqb p q (λ e. absent (inl e)))
    ∙ ap (λ l. q ∷ l) (without_outside p qs (λ h. absent (inr h)))

pub without_split : (p : ℕ) (us vs : List ℕ) → AreDistinct (us ++ p ∷ vs) → without p (us ++ p ∷ vs) ≡ us ++ vs
without_split p [] vs d = ap (λ b. (if b then without p vs else p ∷ without p vs)) (eqb_same p)
    ∙ without_outside p vs d.0
without_split p (u ∷ us) vs d =
    ap (λ b. (if b then without p (us ++ p ∷ vs) else u ∷ without p (us ++ p ∷ vs)))
    (ne_eqb p u (λ e. d.0 (among_right u us (p ∷ vs) (inl (sym e)))))
    ∙ ap (λ l. u ∷ l) (without_split p us vs d.1)

last_some : (u : ℕ) (us : List ℕ) → (z : ℕ) × (last_or (Some u) us ≡ Some z)
last_some u [] = (u, refl)
last_some u (v ∷ us) = last_some v us

first_of_left : (first : Option ℕ) (at : ℕ) (us vs : List ℕ) → first ≡ first_or (us ++ at ∷ vs) None
    → end_of (last_or None us) (first_or vs None) first ≡ first_or (us ++ vs) None
first_of_left first at [] vs e = refl
first_of_left first at (u ∷ us) vs e = ap (λ b. end_of b (first_or vs None) first) (last_some u us).1 ∙ e

last_of_right : (last : Option ℕ) (at : ℕ) (us vs : List ℕ) → last ≡ last_or None (us ++ at ∷ vs)
    → end_of (first_or vs None) (last_or None us) last ≡ last_or None (us ++ vs)
last_of_right last at us [] e = ap (last_or None) (sym (append-nil us))
last_of_right last at us (v ∷ vs) e = e ∙ last_or-append None us (at ∷ v ∷ vs) ∙ sym (last_or-append None us (v ∷ vs))

-- a place is taken out
module _ {K : ℕ} (chain : Chain K) (links : List Link) (at : ℕ) (us vs : List ℕ) (is : IsChain chain links (us ++ at ∷
    vs)) where
  abbrev ps : List ℕ
  ps = us ++ at ∷ vs

  abbrev before : Option ℕ
  before = last_or None us

  abbrev after : Option ℕ
  after = first_or vs None

  behind : AreJoined links before (at ∷ vs) None
  behind = joined_right links None us (at ∷ vs) None is.0

  pub link_there : link_at links at ≡ between before after
  link_there = behind.1

  pub at_within : at < length links
  at_within = behind.0

  abbrev one : List Link
  one = with_after links before after

  abbrev two : List Link
  two = with_before one before after

  abbrev pub unlinked_links : List Link
  unlinked_links = set two at free

  abbrev pub unlinked_chain : Chain K
  unlinked_chain = record { first = end_of before after chain.first; last = end_of after before chain.last }

  one_long : length one ≡ length links
  one_long = after_long links before after

  two_long : length two ≡ length links
  two_long = before_long one before after ∙ one_long

  unlinked_long : length unlinked_links ≡ length links
  unlinked_long = length-set two at free ∙ two_long

  left_not_right : (p : ℕ) → IsAmong p us → ¬ IsAmong p (at ∷ vs)
  left_not_right p h = distinct_apart us (at ∷ vs) p is.1 h

  alone : AreDistinct (at ∷ vs)
  alone = distinct_right us (at ∷ vs) is.1

  off_at : (p : ℕ) → ¬ (p ≡ at) → link_at unlinked_links p ≡ link_at two p
  off_at p ne = get_or-set_other two at p free free ne

  not_after : (p : ℕ) → ¬ IsAmong p vs → ¬ (after ≡ Some p)
  not_after p absent e = absent (first_is_among vs p e)

  not_before : (p : ℕ) → ¬ IsAmong p us → ¬ (before ≡ Some p)
  not_before p absent e = absent (last_is_among us p e)

  in_left : (p : ℕ) → IsAmong p us → link_at unlinked_links p ≡ link_at one p
  in_left p h =
      off_at p (λ e. left_not_right p h (inl e))
      ∙ before_off one before after p (not_after p (λ there. left_not_right p h (inr there)))

  right_not_left : (p : ℕ) → IsAmong p vs → ¬ IsAmong p us
  right_not_left p h there = left_not_right p there (inr h)

  right_not_at : (p : ℕ) → IsAmong p vs → ¬ (p ≡ at)
  right_not_at p h e = alone.0 (subst (λ n. IsAmong n vs) e h)

  left_part : AreJoined unlinked_links None us after
  left_part =
      joined_before links unlinked_links None us (Some at) after (joined_left links None us (at ∷ vs) None is.0)
      (distinct_left us (at ∷ vs) is.1) unlinked_long
      (λ p h ne. in_left p h ∙ after_off links before after p ne)
      (λ z e. let among = last_is_among us z e in
      in_left z among ∙ after_at links before after z e (joined_within links None ps None z is.0 (among_left z us (at ∷
      vs) among)))

  right_part : AreJoined unlinked_links before vs None
  right_part =
      joined_behind links unlinked_links (Some at) before vs None behind.2 alone.1 unlinked_long
      (λ p h ne. off_at p (right_not_at p h) ∙ before_off one before after p ne
      ∙ after_off links before after p (not_before p (right_not_left p h)))
      (λ z e. let among = first_is_among vs z e in
      off_at z (right_not_at z among)
      ∙ before_at one before after z e (omega (
        arith,
        one_long,
        joined_within links None ps None z is.0 (among_right z us (at ∷ vs) (inr among)),
      ))
      ∙ ap (λ (l : Link). record l { before = before }) (after_off links before after z (not_before z (right_not_left z
      among))))

  unlinked_first : end_of before after chain.first ≡ first_or (us ++ vs) None
  unlinked_first = first_of_left chain.first at us vs is.2

  unlinked_last : end_of after before chain.last ≡ last_or None (us ++ vs)
  unlinked_last = last_of_right chain.last at us vs is.3

  unlinked_is : IsChain unlinked_chain unlinked_links (us ++ vs)
  unlinked_is = (
    joined_both unlinked_links None us vs None left_part right_part,
    distinct_without us vs at is.1,
    unlinked_first,
    unlinked_last,
  )

  unlinked_same : AreSame links unlinked_links ps
  unlinked_same = (
    unlinked_long,
    λ p absent.
        off_at p (λ e. absent (among_right p us (at ∷ vs) (inl e)))
        ∙ before_off one before after p (not_after p (λ h. absent (among_right p us (at ∷ vs) (inr h))))
        ∙ after_off links before after p (not_before p (λ h. absent (among_left p us (at ∷ vs) h))),
  )

  pub unlinked : Became K links unlinked_chain unlinked_links (us ++ vs) ps
  unlinked = became links unlinked_chain unlinked_links (us ++ vs) ps unlinked_is unlinked_same

  pub unlinked_free : link_at unlinked_links at ≡ free
  unlinked_free = get_or-set_same two at free free (omega (arith, at_within, two_long))
