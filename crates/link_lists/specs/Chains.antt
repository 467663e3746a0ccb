-- Chains: the places that links lead along, and when a chain and the links of its pool agree.
use Rattle.std.specs.Prelude.{◌≡◌, ℕ, zero, suc, ◌<◌, ◌⊎◌, List, [], ◌∷◌, length, Option, Some, None, eqb}
use Rattle.std.specs.Prelude.{if◌then◌else◌}
use Rattle.link_lists.specs.declared.link.Link.{Link}
use Rattle.link_lists.specs.declared.chain.Chain.{Chain}
use Rattle.link_lists.specs.Links.{link_at, between}

-- the places that one meets from a place on by following `after`, for so many steps at most
abbrev pub followed : List Link → ℕ → Option ℕ → List ℕ
followed links zero at = []
followed links (suc n) None = []
followed links (suc n) (Some p) = p ∷ followed links n (link_at links p).after

-- the places of a chain: as many steps at most as the pool has items
abbrev pub places : {K : ℕ} → Chain K → List Link → List ℕ
places chain links = followed links (length links) chain.first

abbrev pub IsAmong : ℕ → List ℕ → Type 0
IsAmong p [] = ⊥
IsAmong p (q ∷ qs) = (p ≡ q) ⊎ IsAmong p qs

abbrev pub AreDistinct : List ℕ → Type 0
AreDistinct [] = Unit {0}
AreDistinct (p ∷ ps) = (¬ IsAmong p ps) × AreDistinct ps

-- the first of the places, or else the one given
abbrev pub first_or : List ℕ → Option ℕ → Option ℕ
first_or [] after = after
first_or (p ∷ ps) after = Some p

-- the last of the places, or else the one given
abbrev pub last_or : Option ℕ → List ℕ → Option ℕ
last_or before [] = before
last_or before (p ∷ ps) = last_or (Some p) ps

-- each place is in the pool and held, and names its neighbours; `before` stands before the first, `after` behind the
-- last
abbrev pub AreJoined : List Link → Option ℕ → List ℕ → Option ℕ → Type 0
AreJoined links before [] after = Unit {0}
AreJoined links before (p ∷ ps) after =
    (p < length links) × (link_at links p ≡ between before (first_or ps after)) × AreJoined links (Some p) ps after

-- the places are those of the chain
abbrev pub IsChain : {K : ℕ} → Chain K → List Link → List ℕ → Type 0
IsChain chain links ps =
    AreJoined links None ps None × AreDistinct ps × (chain.first ≡ first_or ps None) × (chain.last ≡ last_or None ps)

-- the chain and the links of its pool agree
abbrev pub IsSound : {K : ℕ} → Chain K → List Link → Type 0
IsSound chain links = IsChain chain links (places chain links)

-- the links outside these places are the same, and there are as many
abbrev pub AreSame : List Link → List Link → List ℕ → Type 0
AreSame links links' ps = (length links' ≡ length links) × ((p : ℕ) → ¬ IsAmong p ps →
    link_at links' p ≡ link_at links p)

-- no place is in both
abbrev pub AreApart : List ℕ → List ℕ → Type 0
AreApart ps qs = (p : ℕ) → IsAmong p ps → ¬ IsAmong p qs

-- each other chain that has none of these places has the places that it had
abbrev pub KeepsOthers : ℕ → List Link → List Link → List ℕ → Type 0
KeepsOthers K links links' ps = (other : Chain K) → IsSound other links → AreApart (places other links) ps
    → IsSound other links' × (places other links' ≡ places other links)

-- the places but for one
abbrev pub without : ℕ → List ℕ → List ℕ
without p [] = []
without p (q ∷ qs) = (if eqb p q then without p qs else q ∷ without p qs)

-- what a walk that has come to this place goes on to
abbrev pub IsFollowed : List Link → Option ℕ → Type 0
IsFollowed links next = (before : Option ℕ) × AreJoined links before (followed links (length links) next) None
    × (next ≡ first_or (followed links (length links) next) None)
