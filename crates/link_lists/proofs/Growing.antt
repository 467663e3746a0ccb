-- A chain in a pool that gets one more item.
use Rattle.std.proofs.Common.{◌≡◌, ℕ, ◌<◌, List, [], ◌∷◌, ◌++◌, length, Option, Some, None, ◌∙◌, arith}
use Rattle.std.proofs.lemmas.List.{get_or_append_left, length_push}
use Rattle.link_lists.specs.declared.link.Link.{Link}
use Rattle.link_lists.specs.declared.chain.Chain.{Chain}
use Rattle.link_lists.specs.Links.{free}
use Rattle.link_lists.specs.Chains.{places, AreJoined, IsChain, IsSound}
use Rattle.link_lists.proofs.Relinking.{places_are, sound}

joined_more : (links : List Link) (link : Link) (before : Option ℕ) (ps : List ℕ) (after : Option ℕ) →
    AreJoined links before ps after → AreJoined (links ++ link ∷ []) before ps after
joined_more links link before [] after h = tt
joined_more links link before (p ∷ ps) after h = (
  omega (arith, h.0, length_push links link),
  get_or_append_left links (link ∷ []) free p h.0 ∙ h.1,
  joined_more links link (Some p) ps after h.2,
)

pub grown : {K : ℕ} (chain : Chain K) (links : List Link) (link : Link) → IsSound chain links →
    IsSound chain (links ++ link ∷ []) × (places chain (links ++ link ∷ []) ≡ places chain links)
grown chain links link h =
    let ps = places chain links in
    let is : IsChain chain (links ++ link ∷ []) ps = (joined_more links link None ps None h.0, h.1, h.2, h.3) in
    (sound chain (links ++ link ∷ []) ps is, places_are chain (links ++ link ∷ []) ps is)
