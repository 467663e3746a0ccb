-- What the functions that read say of each other.
use Rattle.std.specs.Prelude.{◌≡◌, ℕ, ◌-◌, List, [], ◌∷◌, ◌++◌, length, replicate, Option, Some, None, Result, Ok, Err}
use Rattle.md_sigs.specs.Refusal.{Begins, CannotGoOn, IsElementOutside, IsFirstOutside}
use Rattle.md_sigs.specs.declared.element.Place.{Place}
use Rattle.md_sigs.specs.declared.element.Stop.{Stop}
use Rattle.md_sigs.specs.declared.fault.SigFault.{SigFault}
use Rattle.md_sigs.specs.declared.waiting.Run.{Run}

-- what a function returned, seen by view, is this reading
abbrev pub Gives : {X Y : Type 0} → (X → Y) → Result X Stop → Result Y Stop → Type 0
Gives view (Ok x) reading = reading ≡ Ok (view x)
Gives view (Err stop) reading = reading ≡ Err stop

-- the places that wait, the next in front
abbrev pub places_of : List Run → List Place
places_of [] = []
places_of (run ∷ runs) = replicate run.count run.place ++ places_of runs

-- the next place that waits, if one does, and those behind it
abbrev pub IsNext : List Place → Option Place → List Place → Type 0
IsNext places None behind = (places ≡ []) × (behind ≡ [])
IsNext places (Some place) behind = places ≡ place ∷ behind

-- what is refused at this stop
abbrev pub StopsBy : (List ℕ → Type 0) → (List ℕ → Type 0) → List ℕ → List ℕ → Stop → Type 0
StopsBy Inner Outer seen left (Stop.Bad n) = (n ≡ length left) × ¬ (IsFirstOutside Outer seen left)
StopsBy Inner Outer seen left (Stop.Outside x) =
    (behind : List ℕ) × (left ≡ x ∷ behind) × IsElementOutside Inner seen x

-- The bytes stop here: something of the inner language begins with those in front, and nothing of the outer one goes on
-- with the next.
pub record IsStoppedBetween (Inner Outer : List ℕ → Type 0) (bytes : List ℕ) (stop : Stop) : Type 0 where
  pub seen : List ℕ
  pub left : List ℕ
  pub joined : bytes ≡ seen ++ left
  pub begun : Begins Inner seen
  pub ended : CannotGoOn Outer seen left
  pub by : StopsBy Inner Outer seen left stop

abbrev pub IsStopped : (List ℕ → Type 0) → List ℕ → Stop → Type 0
IsStopped Language = IsStoppedBetween Language Language

-- the fault that a stop is in these bytes
abbrev pub fault_at : List ℕ → Stop → SigFault
fault_at bytes (Stop.Bad n) = SigFault.BadSig (length bytes - n)
fault_at bytes (Stop.Outside x) = SigFault.SigOutside x
