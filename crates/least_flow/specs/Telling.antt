-- How a table comes to be: rows are raised, and none more than it has to be.
use Rattle.std.specs.Prelude.{◌≡◌, ◌⊎◌, ℕ, suc, ◌+◌, ◌<◌, ◌≤◌, Bool, true, false, List, [], ◌∷◌, length, Option, Some}
use Rattle.std.specs.Prelude.{None, All, Contains}
use Rattle.least_flow.specs.Solution.{row, IsRowBelow, AllBelow, Tells, IsClosedAt, IsSolution}

-- how high a row stands: at least as high as it was raised often
abbrev pub height : {Fact : Type 0} → (Fact → ℕ) → Option Fact → ℕ
height rank None = 0
height rank (Some fact) = suc (rank fact)

abbrev pub heights : {Fact : Type 0} → (Fact → ℕ) → List (Option Fact) → ℕ
heights rank [] = 0
heights rank (row ∷ table) = height rank row + heights rank table

-- of how many places something is known
abbrev pub known_here : {Fact : Type 0} → Option Fact → ℕ
known_here None = 0
known_here (Some fact) = 1

abbrev pub known_places : {Fact : Type 0} → List (Option Fact) → ℕ
known_places [] = 0
known_places (row ∷ table) = known_here row + known_places table

-- what is known has the property
abbrev pub IfKnown : {Fact : Type 0} → (Fact → Type 0) → Option Fact → Type 0
IfKnown P None = Unit {0}
IfKnown P (Some fact) = P fact

-- each fact came over a way of no more places than there are with facts
abbrev pub AreWithin : {Fact : Type 0} → (ℕ → Fact → Type 0) → List (Option Fact) → Type 0
AreWithin IsWithin table = (place : ℕ) → IfKnown (IsWithin (known_places table)) (row table place)

-- A row was raised so that it tells a fact, and no more than it has to, or it told as much.
pub record RowRaised {Fact : Type 0} (IsBelow : Fact → Fact → Type 0) (IsWithin : ℕ → Fact → Type 0) (rank : Fact → ℕ)
    (fact : Fact) (old new : Option Fact) (raised : Bool) : Type 0 where
  pub told : IsRowBelow IsBelow (Some fact) new
  pub grows : IsRowBelow IsBelow old new
  pub least : (other : Option Fact) → IsRowBelow IsBelow old other → IsRowBelow IsBelow (Some fact) other
      → IsRowBelow IsBelow new other
  pub same : raised ≡ false → new ≡ old
  pub higher : raised ≡ true → height rank old < height rank new
  pub joined : (m n : ℕ) (earlier : Fact) → old ≡ Some earlier → IsWithin m earlier → IsWithin n fact
      → IfKnown (IsWithin m) new
  pub begun : (n : ℕ) → old ≡ None → IsWithin n fact → IfKnown (IsWithin n) new
  pub kept_known : known_here old ≤ known_here new

-- Rows of a table were raised so that it tells these facts of these places, and no more than it has to. Each place
-- whose row was raised waits to be looked at.
pub record Told {Fact : Type 0} (IsBelow : Fact → Fact → Type 0) (IsWithin : ℕ → Fact → Type 0) (rank : Fact → ℕ)
    (facts : List (ℕ × Fact)) (old new : List (Option Fact)) (waiting waiting' : List ℕ) : Type 0 where
  pub size : length new ≡ length old
  pub told : All (λ f. Tells IsBelow new f.0 f.1) facts
  pub grows : AllBelow IsBelow old new
  pub least : (other : List (Option Fact)) → length other ≡ length old → AllBelow IsBelow old other
      → All (λ f. Tells IsBelow other f.0 f.1) facts → AllBelow IsBelow new other
  pub within : AreWithin IsWithin old → All (λ f. IsWithin (known_places old + 1) f.1) facts → AreWithin IsWithin new
  pub higher : heights rank old + length waiting' ≤ heights rank new + length waiting
  pub longer : length waiting ≤ length waiting'
  pub waits : (place : ℕ) → Contains waiting place → Contains waiting' place
  pub changed : (place : ℕ) → (row new place ≡ row old place) ⊎ Contains waiting' place
  pub kept_known : known_places old ≤ known_places new

-- The work is under way: the table tells what is told from the start and no more than any solution, and each place
-- waits, or what is passed on from it is told.
pub record IsUnderWay {Fact : Type 0} (IsBelow : Fact → Fact → Type 0) (Starts : ℕ → Fact → Type 0)
    (Passes : ℕ → Fact → ℕ → Fact → Type 0) (IsWithin : ℕ → Fact → Type 0) (table : List (Option Fact))
    (waiting : List ℕ) : Type 0 where
  pub within : AreWithin IsWithin table
  pub started : (place : ℕ) (fact : Fact) → Starts place fact → Tells IsBelow table place fact
  pub below : (other : List (Option Fact)) → length other ≡ length table → IsSolution IsBelow Starts Passes other
      → AllBelow IsBelow table other
  pub waits : (place : ℕ) → Contains waiting place ⊎ IsClosedAt IsBelow Passes table place
