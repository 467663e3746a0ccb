-- The links and the rests of a pool's items, as one item changes.
use Rattle.std.proofs.Common.{◌≡◌, ℕ, List, map, set, get_or, slice_get, Some, sym, ap, ◌∙◌}
use Rattle.std.proofs.lemmas.List.{map-set, get_or-map}
use Rattle.std.proofs.Math.Seq.{map-set_same}
use Rattle.std.proofs.lemmas.Option.{get_or_from_slice_get, slice_get_within}

module _ {X Y : Type 0} (f : X → Y) (xs : List X) (i : ℕ) (x : X) (here : slice_get xs i ≡ Some x) where
  pub read : (d : Y) → get_or (map f xs) i d ≡ f x
  read d = get_or-map f xs i x d (slice_get_within xs i x here) ∙ ap f (get_or_from_slice_get xs i x x here)

  pub written : (y : X) (to : Y) → f y ≡ to → map f (set xs i y) ≡ set (map f xs) i to
  written y to e = map-set f xs i y ∙ ap (set (map f xs) i) e

  pub kept : (y : X) → f y ≡ f x → map f (set xs i y) ≡ map f xs
  kept y e = map-set_same f xs i y x (e ∙ ap f (sym (get_or_from_slice_get xs i x x here)))
