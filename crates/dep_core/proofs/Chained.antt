-- Chains through the records of a pool, as records come and links change.
use Rattle.std.proofs.Common.{◌≡◌, ℕ, zero, suc, ◌<◌, ◌≤◌, List, [], ◌∷◌, ◌++◌, length, map, slice_get}
use Rattle.std.proofs.Common.{if◌then◌else◌, inl, inr, false, Option, Some, None, refl, sym, ap, ◌∙◌, subst}
use Rattle.std.proofs.Common.{arith}
use Rattle.std.proofs.lemmas.List.{length-map, map-append, get_or_push, length_push}
use Rattle.std.proofs.lemmas.Bool.Decides.{eqb_tells}
use Rattle.std.proofs.lemmas.List.Sorted.{IsPermutation-refl, IsPermutation-cons, IsPermutation-middle}
use Rattle.std.proofs.lemmas.List.Sorted.{IsPermutation-trans}
use Rattle.std.specs.List.Sorted.{IsPermutation}
use Rattle.link_lists.specs.declared.link.Link.{Link}
use Rattle.link_lists.specs.declared.chain.Chain.{Chain}
use Rattle.link_lists.specs.Links.{free, link_at}
use Rattle.link_lists.specs.Chains.{places, followed, without, AreDistinct, IsAmong, IsSound}

-- ---- what is read of each record
module _ {X Y : Type 0} (f : X → Y) where
  fused : (g : X → X) → ((x : X) → f (g x) ≡ f x) → (xs : List X) → map f (map g xs) ≡ map f xs
  fused g h [] = refl
  fused g h (x ∷ xs) = ap (λ y. y ∷ map f (map g xs)) (h x) ∙ ap (λ l. f x ∷ l) (fused g h xs)

  -- what the rests tell stays with them
  pub told_by_rests : (g : X → X) → ((x : X) → f (g x) ≡ f x) → (xs ys : List X) → map g ys ≡ map g xs
      → map f ys ≡ map f xs
  told_by_rests g h xs ys e = sym (fused g h ys) ∙ ap (map f) e ∙ fused g h xs

  pub get_map : (xs : List X) (k : ℕ) (x : X) → slice_get xs k ≡ Some x → slice_get (map f xs) k ≡ Some (f x)
  get_map [] k x e = cc
  get_map (y ∷ xs) zero x e = cc
  get_map (y ∷ xs) (suc k) x e = get_map xs k x e

pub long_by_rests : {X : Type 0} (g : X → X) (xs ys : List X) → map g ys ≡ map g xs → length ys ≡ length xs
long_by_rests g xs ys e = omega (arith, ap length e, length-map ys g, length-map xs g)

-- ---- places
pub followed_few : (links : List Link) (n : ℕ) (at : Option ℕ) → length (followed links n at) ≤ n
followed_few links zero at = omega arith
followed_few links (suc n) None = omega arith
followed_few links (suc n) (Some p) = omega (arith, followed_few links n (link_at links p).after)

pub places_few : {K : ℕ} (chain : Chain K) (links : List Link) → length (places chain links) ≤ length links
places_few chain links = followed_few links (length links) chain.first

pub among_get : (ps : List ℕ) (k p : ℕ) → slice_get ps k ≡ Some p → IsAmong p ps
among_get [] k p e = cc
among_get (q ∷ ps) zero p e = let same : q ≡ p = cc in inl (sym same)
among_get (q ∷ ps) (suc k) p e = inr (among_get ps k p e)

not_without : (p : ℕ) (ps : List ℕ) → (¬ IsAmong p ps) → without p ps ≡ ps
not_without p [] out = refl
not_without p (q ∷ ps) out = elim (eqb_tells p q) [
  | inl same ↦ absurd (out (inl same.1))
  | inr other ↦
      ap (λ b. (if b then without p ps else q ∷ without p ps)) other.0
      ∙ ap (λ l. q ∷ l) (not_without p ps (λ h. out (inr h)))
]

-- a place taken out, and the others
pub without_permutes : (p : ℕ) (ps : List ℕ) → AreDistinct ps → IsAmong p ps → IsPermutation ps (p ∷ without p ps)
without_permutes p [] distinct among = absurd among
without_permutes p (q ∷ ps) distinct among = elim (eqb_tells p q) [
  | inl same ↦
      let out : ¬ IsAmong p ps = λ h. distinct.0 (subst (λ n. IsAmong n ps) same.1 h) in
      let is : without p (q ∷ ps) ≡ ps =
      ap (λ b. (if b then without p ps else q ∷ without p ps)) same.0 ∙ not_without p ps out in
      subst (λ l. IsPermutation (q ∷ ps) (p ∷ l)) (sym is)
      (subst (λ n. IsPermutation (q ∷ ps) (n ∷ ps)) (sym same.1) (IsPermutation-refl (q ∷ ps)))
  | inr other ↦
      let stays : without p (q ∷ ps) ≡ q ∷ without p ps =
      ap (λ b. (if b then without p ps else q ∷ without p ps)) other.0 in
      let behind : IsAmong p ps = elim among [ inl e ↦ absurd (other.1 e) | inr h ↦ h ] in
      let first : IsPermutation (q ∷ ps) (q ∷ p ∷ without p ps) =
      IsPermutation-cons q ps (p ∷ without p ps) (without_permutes p ps distinct.1 behind) in
      let second : IsPermutation (q ∷ p ∷ without p ps) (p ∷ q ∷ without p ps) =
      IsPermutation-middle (q ∷ []) p (without p ps) in
      subst (λ l. IsPermutation (q ∷ ps) (p ∷ l)) (sym stays)
      (IsPermutation-trans (q ∷ ps) (q ∷ p ∷ without p ps) (p ∷ q ∷ without p ps) first second)
]

-- ---- a record behind the others
module _ {X : Type 0} (f : X → Link) (xs ys : List X) (x : X) (fresh : f x ≡ free)
    (same : map f ys ≡ map f (xs ++ x ∷ [])) where
  pub grown_links : map f ys ≡ map f xs ++ free ∷ []
  grown_links = same ∙ map-append f xs (x ∷ []) ∙ ap (λ l. map f xs ++ l ∷ []) fresh

  -- its place may come to a chain
  pub readied : {K : ℕ} (chain : Chain K) (at : ℕ) → at ≡ length xs → IsSound chain (map f xs ++ free ∷ [])
      → IsSound chain (map f ys) × (at < length ys) × ((link_at (map f ys) at).held ≡ false)
  readied chain at e sound = (
    subst (IsSound chain) (sym grown_links) sound,
    omega (
      arith,
      e,
      ap length same,
      length-map ys f,
      length-map (xs ++ x ∷ []) f,
      length_push xs x,
    ),
    ap (λ ls. (link_at ls at).held) grown_links
        ∙ ap (λ (l : Link). l.held) (get_or_push (map f xs) free free at (omega (arith, e, length-map xs f))),
  )
