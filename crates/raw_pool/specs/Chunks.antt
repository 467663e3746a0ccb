-- The chunks of a pool, as their items and their numbers of places.
use Rattle.std.specs.Prelude.{◌≡◌, ℕ, ◌*◌, ◌^◌, ◌<◌, ◌≤◌, List, [], ◌∷◌, ◌++◌, length, eqb, if◌then◌else◌}

-- the items, one chunk after the other
abbrev pub items_of : {X : Type 0} → List (List X × ℕ) → List X
items_of [] = []
items_of (c ∷ cs) = c.0 ++ items_of cs

-- the first chunk has so many places and each other twice as many as the one before, and each but the last is full
abbrev pub AreDoubling : {X : Type 0} → ℕ → List (List X × ℕ) → Type 0
AreDoubling places [] = Unit {0}
AreDoubling places (c ∷ cs) =
    (c.1 ≡ places) × (length c.0 ≤ places) × (0 < length cs → length c.0 ≡ places) × AreDoubling (2 * places) cs

-- the chunks, and one more behind them where this is its number
abbrev pub with_chunk : {X : Type 0} → ℕ → List (List X × ℕ) → List (List X × ℕ)
with_chunk k cs = (if eqb k (length cs) then cs ++ ([], 2 ^ k) ∷ [] else cs)
