-- How a table of what is known comes to be: rows are raised, and none more than it has to be.
use Rattle.std.specs.Prelude.{◌≡◌, ℕ, ◌+◌, ◌<◌, ◌≤◌, Bool, true, false, List, [], ◌∷◌, length, All}
use Rattle.il_code.specs.declared.body.Instr.{Instr}
use Rattle.ilc_build.specs.Depths.{IsBelow, known_at, row, AllBelow, IsSolution}
use Rattle.ilc_build.specs.declared.depths.Known.{Known}
use Rattle.ilc_build.specs.declared.depths.Known.TheVariants.{Nothing, Depth, Clash}

-- how high a row stands: at least as high as it was raised often
abbrev pub rank : Known → ℕ
rank Nothing = 0
rank (Depth d) = 1
rank Clash = 2

abbrev pub ranks : List Known → ℕ
ranks [] = 0
ranks (k ∷ table) = rank k + ranks table

-- a depth is at most n
abbrev pub IsShallow : ℕ → Known → Type 0
IsShallow n (Depth d) = d ≤ n
IsShallow n _ = Unit {0}

-- each depth is at most the sum of the ranks
abbrev pub AreShallow : List Known → Type 0
AreShallow table = (n : ℕ) → IsShallow (ranks table) (row table n)

-- rows were raised, or none
pub record Raised (old new : List Known) (raised : Bool) : Type 0 where
  pub size : length new ≡ length old
  pub same : raised ≡ false → new ≡ old
  pub more : raised ≡ true → ranks old < ranks new
  pub grows : AllBelow old new
  pub shallow : AreShallow new

-- the table tells this at each of the offsets
abbrev pub Tells : List Instr → List Known → Known → List ℕ → Type 0
Tells instrs table known offsets = All (λ offset. IsBelow known (known_at instrs table offset)) offsets

-- Rows of a table were raised so that it tells this at each of the offsets, and no more than it has to.
pub record IsTold (instrs : List Instr) (known : Known) (offsets : List ℕ) (old new : List Known) (any : Bool)
    : Type 0 where
  pub raised : Raised old new any
  pub told : Tells instrs new known offsets
  pub below : (other : List Known) → length other ≡ length instrs → AllBelow old other →
      Tells instrs other known offsets → AllBelow new other

-- it stays below each solution
abbrev pub StaysBelow : List Instr → List Known → List Known → Type 0
StaysBelow instrs old new = (other : List Known) → IsSolution instrs other → AllBelow old other → AllBelow new other
