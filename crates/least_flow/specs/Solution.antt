-- What is known of numbered places, where facts are told of some from the start and are passed on from place to place:
-- the least table that says so much.
use Rattle.std.specs.Prelude.{◌≡◌, ℕ, ◌<◌, List, length, slice_index_or, Option, Some, None, Contains}

-- what a table tells of a place; a place that no fact comes to has none
abbrev pub row : {Fact : Type 0} → List (Option Fact) → ℕ → Option Fact
row table place = slice_index_or table place None

-- the first tells no more than the second
abbrev pub IsRowBelow : {Fact : Type 0} → (Fact → Fact → Type 0) → Option Fact → Option Fact → Type 0
IsRowBelow IsBelow None other = Unit {0}
IsRowBelow IsBelow (Some fact) None = ⊥
IsRowBelow IsBelow (Some fact) (Some other) = IsBelow fact other

-- a table tells of no place more than another
abbrev pub AllBelow : {Fact : Type 0} → (Fact → Fact → Type 0) → List (Option Fact) → List (Option Fact) → Type 0
AllBelow IsBelow table other = (place : ℕ) → IsRowBelow IsBelow (row table place) (row other place)

-- a table tells a fact of a place, or more; of what isn't one of its places nothing is asked
abbrev pub Tells : {Fact : Type 0} → (Fact → Fact → Type 0) → List (Option Fact) → ℕ → Fact → Type 0
Tells IsBelow table place fact = place < length table → IsRowBelow IsBelow (Some fact) (row table place)

-- all that is passed on from a place is told
abbrev pub IsClosedAt : {Fact : Type 0} → (Fact → Fact → Type 0) → (ℕ → Fact → ℕ → Fact → Type 0) → List (Option Fact)
    → ℕ → Type 0
IsClosedAt {Fact} IsBelow Passes table place =
    (known : Fact) → row table place ≡ Some known → (to : ℕ) (fact : Fact) → Passes place known to fact
    → Tells IsBelow table to fact

-- A table that tells all that is told from the start, and all that is passed on from what it tells.
pub record IsSolution {Fact : Type 0} (IsBelow : Fact → Fact → Type 0) (Starts : ℕ → Fact → Type 0)
    (Passes : ℕ → Fact → ℕ → Fact → Type 0) (table : List (Option Fact)) : Type 0 where
  pub started : (place : ℕ) (fact : Fact) → Starts place fact → Tells IsBelow table place fact
  pub closed : (place : ℕ) → IsClosedAt IsBelow Passes table place

-- the solution that tells no more than any other of its size
pub record IsLeast {Fact : Type 0} (IsBelow : Fact → Fact → Type 0) (Starts : ℕ → Fact → Type 0)
    (Passes : ℕ → Fact → ℕ → Fact → Type 0) (table : List (Option Fact)) : Type 0 where
  pub solution : IsSolution IsBelow Starts Passes table
  pub least : (other : List (Option Fact)) → length other ≡ length table → IsSolution IsBelow Starts Passes other
      → AllBelow IsBelow table other

-- one of the facts for a place tells as much
abbrev pub HasFact : {Fact : Type 0} → (Fact → Fact → Type 0) → List (ℕ × Fact) → ℕ → Fact → Type 0
HasFact {Fact} IsBelow facts place fact = (given : Fact) × Contains facts (place, given) × IsBelow fact given

-- These facts for places say all that is told, and no more.
pub record AreTold {Fact : Type 0} (IsBelow : Fact → Fact → Type 0) (IsTold : ℕ → Fact → Type 0)
    (facts : List (ℕ × Fact)) : Type 0 where
  pub all : (place : ℕ) (fact : Fact) → IsTold place fact → HasFact IsBelow facts place fact
  pub only : (place : ℕ) (given : Fact) → Contains facts (place, given)
      → (fact : Fact) × IsTold place fact × IsBelow given fact
