-- The items of a heap, as its map keeps them.
use Rattle.std.proofs.Common.{◌≡◌, ℕ, Bool, cond, List, [], ◌∷◌, ◌++◌, map, Some, ap, refl}
use Rattle.std.specs.Map.{lookup}

module _ {K X : Type 0} (f : K → List ℕ) (test : List ℕ → Bool) where
  -- a look-up by what is seen of the keys
  pub lookup_seen : (entries : List (K × X))
      → lookup test (map (λ entry. (f entry.0, entry.1)) entries) ≡ lookup (λ key. test (f key)) entries
  lookup_seen [] = refl
  lookup_seen (entry ∷ entries) = ap (cond (test (f entry.0)) (Some entry.1)) (lookup_seen entries)

pub map_pushed : {A B : Type 0} (f : A → B) (xs : List A) (x : A) → map f (xs ++ x ∷ []) ≡ map f xs ++ f x ∷ []
map_pushed f [] x = refl
map_pushed f (y ∷ xs) x = ap (λ ys. f y ∷ ys) (map_pushed f xs x)
