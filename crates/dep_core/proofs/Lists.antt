-- What lists contain.
use Rattle.std.proofs.Common.{◌≡◌, ◌⊎◌, inl, inr, ℕ, zero, suc, ◌<◌, ◌≤◌, List, [], ◌∷◌, ◌++◌, All, Contains}
use Rattle.std.proofs.Common.{length}
use Rattle.std.proofs.Common.{slice_index_or, slice_get, Some, refl, sym, subst, arith}
use Rattle.std.proofs.lemmas.Option.{slice_get_read, slice_get_within}
use Rattle.std.proofs.lemmas.List.Elements.{All-contains_itself, All-pop, All-weaker, Contains-push_cases}

pub contains_none : {X : Type 0} (x : X) → Contains [] x → ⊥
contains_none x h = absurd (omega (arith, h.1))

pub contains_here : {X : Type 0} (x : X) (xs : List X) → Contains (x ∷ xs) x
contains_here x xs = (0, omega arith, refl)

pub contains_behind : {X : Type 0} (x y : X) (xs : List X) → Contains xs x → Contains (y ∷ xs) x
contains_behind x y xs h = (suc h.0, omega (arith, h.1), h.2)

at_cases : {X : Type 0} (x y : X) (xs : List X) (k : ℕ) → k < length (y ∷ xs) → slice_index_or (y ∷ xs) k x ≡ x
    → (y ≡ x) ⊎ Contains xs x
at_cases x y xs zero lt e = inl e
at_cases x y xs (suc k) lt e = inr (k, omega (arith, lt), e)

pub contains_cases : {X : Type 0} (x y : X) (xs : List X) → Contains (y ∷ xs) x → (y ≡ x) ⊎ Contains xs x
contains_cases x y xs h = at_cases x y xs h.0 h.1 h.2

pub all_from_contains : {X : Type 0} (P : X → Type 0) (xs : List X) → ((x : X) → Contains xs x → P x) → All P xs
all_from_contains P xs f = All-weaker (Contains xs) P f xs (All-contains_itself xs)

-- what was popped
pub popped_cases : {X : Type 0} (left rest : List X) (y x : X) → left ≡ rest ++ y ∷ [] → Contains left x
    → Contains rest x ⊎ (y ≡ x)
popped_cases left rest y x e h = Contains-push_cases rest y x (subst (λ l. Contains l x) e h)

pub popped_all : {X : Type 0} (P : X → Type 0) (left rest : List X) (x : X) → left ≡ rest ++ x ∷ [] → All P left
    → All P rest × P x
popped_all P left rest x e h = All-pop P left rest (Some x) e h

-- an item at a place
pub get_within : {X : Type 0} (xs : List X) (k : ℕ) → k < length xs → (x : X) × (slice_get xs k ≡ Some x)
get_within [] k h = absurd (omega (arith, h))
get_within (x ∷ xs) zero h = (x, refl)
get_within (x ∷ xs) (suc k) h = get_within xs k (omega (arith, h))

pub get_contains : {X : Type 0} (xs : List X) (k : ℕ) (x : X) → slice_get xs k ≡ Some x → Contains xs x
get_contains [] k x e = cc
get_contains (y ∷ xs) zero x e = let same : y ≡ x = cc in subst (Contains (y ∷ xs)) same (contains_here y xs)
get_contains (y ∷ xs) (suc k) x e = contains_behind x y xs (get_contains xs k x e)

pub contains_get : {X : Type 0} (xs : List X) (x : X) → Contains xs x → (k : ℕ) × (slice_get xs k ≡ Some x)
contains_get xs x h = (h.0, slice_get_read xs (length xs) h.0 x refl h.1 (sym h.2))

pub get_stays : {X : Type 0} (xs more : List X) (k : ℕ) (x : X) → slice_get xs k ≡ Some x
    → slice_get (xs ++ more) k ≡ Some x
get_stays [] more k x e = cc
get_stays (y ∷ xs) more zero x e = e
get_stays (y ∷ xs) more (suc k) x e = get_stays xs more k x e

-- an item of a list with more behind it is one before, or stands behind
pub get_cases : {X : Type 0} (xs more : List X) (k : ℕ) (x : X) → slice_get (xs ++ more) k ≡ Some x
    → (slice_get xs k ≡ Some x) ⊎ ((length xs ≤ k) × (k < length (xs ++ more)))
get_cases [] more k x e = inr (omega arith, slice_get_within more k x e)
get_cases (y ∷ xs) more zero x e = inl e
get_cases (y ∷ xs) more (suc k) x e = elim (get_cases xs more k x e) [
  | inl before ↦ inl before
  | inr behind ↦ inr (omega (arith, behind.0), omega (arith, behind.1))
]

-- the item behind a list
pub get_push : {X : Type 0} (xs : List X) (x : X) → slice_get (xs ++ x ∷ []) (length xs) ≡ Some x
get_push [] x = refl
get_push (y ∷ xs) x = get_push xs x
