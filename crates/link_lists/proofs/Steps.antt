-- The calls of a chain and of a walk, from what each step of the code gives.
use Rattle.std.proofs.Common.{◌≡◌, ℕ, zero, suc, ◌<◌, ◌≤◌, false, List, [], ◌∷◌, ◌++◌, length, set, Option, Some, None}
use Rattle.std.proofs.Common.{refl, sym, ap, ◌∙◌, subst, arith, inr}
use Rattle.std.specs.Option.{IfSome, option_or}
use Rattle.link_lists.specs.declared.link.Link.{Link}
use Rattle.link_lists.specs.declared.chain.Chain.{Chain}
use Rattle.link_lists.specs.Links.{free, between, end_of, link_at, with_after, with_before}
use Rattle.link_lists.specs.Chains.{
  followed,
  places,
  IsAmong,
  AreDistinct,
  first_or,
  last_or,
  AreJoined,
  IsChain,
  IsSound,
  IsFollowed,
  without,
}
use Rattle.link_lists.proofs.Joining.{split, joined_within, among_left, among_right, followed_is, followed_short}
use Rattle.link_lists.proofs.Relinking.{Became, pushed, unlinked, unlinked_free, link_there, at_within, last_is_among}
use Rattle.link_lists.proofs.Relinking.{first_is_among, without_split}

pub some_within : (o : Option ℕ) (n : ℕ) → ((z : ℕ) → o ≡ Some z → z < n) → IfSome o (λ at. at < n)
some_within None n h = tt
some_within (Some z) n h = h z refl

pub nothing_followed : (links : List Link) (n : ℕ) → followed links n None ≡ []
nothing_followed links zero = refl
nothing_followed links (suc n) = refl

pub last_within : {K : ℕ} (chain : Chain K) (links : List Link) (z : ℕ) → IsSound chain links → chain.last ≡ Some z →
    z < length links
last_within chain links z sound e =
    joined_within links None (places chain links) None z sound.0 (last_is_among (places chain links) z (sym sound.3
    ∙ e))

pub pushed_so : {K : ℕ} (chain : Chain K) (links : List Link) (at : ℕ) → at < length links →
    (link_at links at).held ≡ false
    → IsSound chain links → (first : Option ℕ) → first ≡ option_or chain.first (Some at) → (links' : List Link)
    → links' ≡ with_after (set links at (between chain.last None)) chain.last (Some at)
    → Became K links (record {
      first = first;
      last =
          Some at;
    }) links' (places chain links ++ at ∷ []) (places chain links ++ at ∷ [])
pushed_so {K} chain links at within unheld sound first first_is links' links_are =
    let ps = places chain links ++ at ∷ [] in
    let P : Option ℕ → List Link → Type 0 = λ f l. Became K links (record { first = f; last = Some at }) l ps ps in
    subst (λ f. P f links') (sym first_is)
    (subst (P (option_or chain.first (Some at))) (sym links_are) (pushed chain links at within unheld (places chain
    links) sound))

-- the neighbours of a place in a chain lie in the pool
pub record Stands (links : List Link) (at : ℕ) : Type 0 where
  pub within : at < length links
  pub before : (z : ℕ) → (link_at links at).before ≡ Some z → z < length links
  pub after : (z : ℕ) → (link_at links at).after ≡ Some z → z < length links

pub stands : {K : ℕ} (chain : Chain K) (links : List Link) (at : ℕ) → IsSound chain links →
    IsAmong at (places chain links) → Stands links at
stands chain links at sound among =
    let ps = places chain links in
    let cut = split at ps among in
    let us = cut.0 in let vs = cut.1 in
    let is : IsChain chain links (us ++ at ∷ vs) = subst (IsChain chain links) cut.2 sound in
    let there = link_there chain links at us vs is in
    record {
      within = at_within chain links at us vs is;
      before = λ z e. joined_within links None (us ++ at ∷ vs) None z is.0
          (among_left z us (at ∷ vs) (last_is_among us z (sym (ap (λ (l : Link). l.before) there) ∙ e)));
      after = λ z e. joined_within links None (us ++ at ∷ vs) None z is.0
          (among_right z us (at ∷ vs) (inr (first_is_among vs z (sym (ap (λ (l : Link). l.after) there) ∙ e))));
    }

abbrev pub unlinked_as : {K : ℕ} → Chain K → List Link → ℕ → Link → Chain K
unlinked_as chain links at l = record {
  first = end_of l.before l.after chain.first;
  last =
      end_of l.after l.before chain.last;
}

abbrev pub unlinked_to : List Link → ℕ → Link → List Link
unlinked_to links at l = set (with_before (with_after links l.before l.after) l.before l.after) at free

pub unlinked_so : {K : ℕ} (chain : Chain K) (links : List Link) (at : ℕ) → IsSound chain links →
    IsAmong at (places chain links)
    → (l : Link) → l ≡ link_at links at → (first last : Option ℕ) → first ≡ end_of l.before l.after chain.first
    → last ≡ end_of l.after l.before chain.last → (links' : List Link) → links' ≡ unlinked_to links at l
    → Became K links (record {
      first = first;
      last =
          last;
    }) links' (without at (places chain links)) (places chain links)
    × (link_at links' at ≡ free)
unlinked_so {K} chain links at sound among l l_is first last first_is last_is links' links_are =
    let ps = places chain links in
    let cut = split at ps among in
    let us = cut.0 in let vs = cut.1 in
    let is : IsChain chain links (us ++ at ∷ vs) = subst (IsChain chain links) cut.2 sound in
    let here : l ≡ between (last_or None us) (first_or vs None) = l_is ∙ link_there chain links at us vs is in
    let left : without at ps ≡ us ++ vs = ap (without at) cut.2 ∙ without_split at us vs is.1 in
    let P : List ℕ → List ℕ → Chain K → List Link → Type 0 = λ qs rs c ls. Became K links c ls qs rs
    × (link_at ls at ≡ free) in
    let chain_then = unlinked_as chain links at (between (last_or None us) (first_or vs None)) in
    let links_then = unlinked_to links at (between (last_or None us) (first_or vs None)) in
    let parted : P (us ++ vs) (us ++ at ∷ vs) (unlinked_as chain links at (between (last_or None us) (first_or vs
    None)))
    (unlinked_to links at (between (last_or None us) (first_or vs None))) =
    (unlinked chain links at us vs is, unlinked_free chain links at us vs is) in
    let whole : P (without at ps) ps (unlinked_as chain links at (between (last_or None us) (first_or vs None)))
    (unlinked_to links at (between (last_or None us) (first_or vs None))) =
    subst (λ qs. P qs ps chain_then links_then) (sym left) (subst (λ rs. P (us ++ vs) rs chain_then links_then) (sym
    cut.2) parted) in
    let there : P (without at ps) ps (unlinked_as chain links at l) (unlinked_to links at l) =
    subst (λ m. P (without at ps) ps (unlinked_as chain links at m) (unlinked_to links at m)) (sym here) whole in
    subst (λ ls. P (without at ps) ps (record { first = first; last = last }) ls) (sym links_are)
    (subst (λ f. P (without at ps) ps (record { first = f; last = last }) (unlinked_to links at l)) (sym first_is)
    (subst (λ f. P (without at ps) ps (record {
      first = end_of l.before l.after chain.first;
      last =
          f;
    }) (unlinked_to links at l)) (sym last_is) there))

headed : (ps : List ℕ) (at : ℕ) → AreDistinct ps → first_or ps None ≡ Some at → ps ≡ at ∷ without at ps
headed [] at d e = cc
headed (p ∷ ps) at d e =
    let same : p ≡ at = cc in
    subst (λ q. q ∷ ps ≡ at ∷ without at (q ∷ ps)) (sym same)
    (ap (λ l. at ∷ l) (sym (without_split at [] ps (subst (λ q. AreDistinct (q ∷ ps)) same d))))

-- the first place of a chain is the first of its places
pub popped : {K : ℕ} (chain : Chain K) (links : List Link) (at : ℕ) → IsSound chain links → chain.first ≡ Some at
    → places chain links ≡ at ∷ without at (places chain links)
popped chain links at sound e = headed (places chain links) at sound.1 (sym sound.2 ∙ e)

goes_from : (links : List Link) (n at : ℕ) (before : Option ℕ) →
    AreJoined links before (followed links n (Some at)) None
    → Some at ≡ first_or (followed links n (Some at)) None
    → (rest : List ℕ) × (followed links n (Some at) ≡ at ∷ rest) × AreJoined links (Some at) rest None
    × ((link_at links at).after ≡ first_or rest None) × (length rest ≤ n) × (at < length links)
goes_from links zero at before joined e = cc
goes_from links (suc n) at before joined e = (
  followed links n (link_at links at).after,
  refl,
  joined.2,
  ap (λ (l : Link). l.after) joined.1,
  omega (arith, followed_short links n (link_at links at).after),
  joined.0,
)

-- a walk that has come to a place goes on behind it
pub goes_on : (links : List Link) (at : ℕ) → IsFollowed links (Some at)
    → (followed links (length links) (Some at) ≡ at ∷ followed links (length links) (link_at links at).after)
    × IsFollowed links (link_at links at).after × (at < length links)
goes_on links at is =
    let on = goes_from links (length links) at is.0 is.1 is.2 in
    let rest = on.0 in
    let after : (link_at links at).after ≡ first_or rest None = on.3 in
    let again : followed links (length links) (link_at links at).after ≡ rest =
    ap (followed links (length links)) after ∙ followed_is links (Some at) rest (length links) on.2 on.4 in (
      on.1 ∙ ap (λ l. at ∷ l) (sym again),
      (
        Some at,
        subst (λ l. AreJoined links (Some at) l None) (sym again) on.2,
        after
            ∙ ap (λ l. first_or l None) (sym again),
      ),
      on.5,
    )
