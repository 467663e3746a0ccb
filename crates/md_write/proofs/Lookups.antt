-- What a look-up finds where an entry stands behind all others.
use Rattle.std.proofs.Common.{◌≡◌, ℕ, Bool, true, false, cond, List, [], ◌∷◌, ◌++◌, refl, Option, Some, None, ◌⊎◌}
use Rattle.std.proofs.Common.{inl, inr}
use Rattle.std.specs.Map.{lookup}

more_by : {X : Type 0} (b : Bool) (v found : X) (old new : Option X) → (old ≡ Some found → new ≡ Some found)
    → cond b (Some v) old ≡ Some found → cond b (Some v) new ≡ Some found
more_by true v found old new rest h = h
more_by false v found old new rest h = rest h

-- what was found still is
pub lookup-more : {X : Type 0} (test : List ℕ → Bool) (entries : List (List ℕ × X)) (entry : List ℕ × X) (found : X)
    → lookup test entries ≡ Some found → lookup test (entries ++ entry ∷ []) ≡ Some found
lookup-more test [] entry found h = cc
lookup-more test (first ∷ rest) entry found h =
    more_by (test first.0) first.1 found (lookup test rest) (lookup test (rest ++ entry ∷ []))
    (lookup-more test rest entry found) h

some_is : {X : Type 0} (v found : X) → Some v ≡ Some found → v ≡ found
some_is v found e = cc

last_by : {X : Type 0} (b : Bool) (v found : X) → cond b (Some v) None ≡ Some found → (b ≡ true) × (v ≡ found)
last_by true v found h = (refl, some_is v found h)
last_by false v found h = cc

or_by : {X : Type 0} (b : Bool) (v found : X) (old new : Option X) (Q : Type 0)
    → (new ≡ Some found → (old ≡ Some found) ⊎ Q) → cond b (Some v) new ≡ Some found
    → (cond b (Some v) old ≡ Some found) ⊎ Q
or_by true v found old new Q rest h = inl h
or_by false v found old new Q rest h = rest h

-- what is found was so before, or is the entry
pub lookup-last : {X : Type 0} (test : List ℕ → Bool) (entries : List (List ℕ × X)) (entry : List ℕ × X) (found : X)
    → lookup test (entries ++ entry ∷ []) ≡ Some found
    → (lookup test entries ≡ Some found) ⊎ ((test entry.0 ≡ true) × (entry.1 ≡ found))
lookup-last test [] entry found h = inr (last_by (test entry.0) entry.1 found h)
lookup-last test (first ∷ rest) entry found h =
    or_by (test first.0) first.1 found (lookup test rest) (lookup test (rest ++ entry ∷ []))
    ((test entry.0 ≡ true) × (entry.1 ≡ found)) (lookup-last test rest entry found) h
