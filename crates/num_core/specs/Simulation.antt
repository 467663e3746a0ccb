-- A simulation of single steps, in which each step of the first program has a bound of its own and something holds of
-- all that lies between two moments; and what it gives of whole runs.
use Rattle.std.specs.Prelude.{ℕ, zero, suc, ◌+◌, ◌<◌, ◌≤◌}
use Rattle.num_core.specs.Run.{KeepsStep, Run, Streams, after, one_more}

-- One step of the first program is one step of the second or more, and at most so many, between related runs; and Q
-- holds of the first program's run and each of the second's on the way.
pub record StepsBy {State Cause State' Cause' : Type 0} (step : State → Streams → Run State Cause)
    (step' : State' → Streams → Run State' Cause') (R : Run State Cause → Run State' Cause' → Type 0)
    (most : Run State Cause → ℕ) (Q : Run State Cause → Run State' Cause' → Type 0) (a : Run State Cause)
    (b : Run State' Cause') : Type 0 where
  pub count : ℕ
  pub some : 0 < count
  pub few : count ≤ most a
  pub related : R (one_more step a) (after step' count b)
  pub between : (j : ℕ) → j < count → Q a (after step' j b)

-- that holds of all related runs
abbrev pub SimulatesBy : {State Cause State' Cause' : Type 0} → (State → Streams → Run State Cause)
    → (State' → Streams → Run State' Cause') → (Run State Cause → Run State' Cause' → Type 0) → (Run State Cause → ℕ)
    → (Run State Cause → Run State' Cause' → Type 0) → Type 0
SimulatesBy {State} {Cause} {State'} {Cause'} step step' R most Q =
    (a : Run State Cause) (b : Run State' Cause') → R a b → StepsBy step step' R most Q a b

-- The second run keeps step with the first, from wherever its first moment is, and Q holds of each of its steps from
-- one moment to the next.
pub record KeepsStepBy {State Cause State' Cause' : Type 0} (step : State → Streams → Run State Cause)
    (step' : State' → Streams → Run State' Cause') (R : Run State Cause → Run State' Cause' → Type 0)
    (most : Run State Cause → ℕ) (Q : Run State Cause → Run State' Cause' → Type 0) (a : Run State Cause)
    (b : Run State' Cause') : Type 0 where
  pub keeps : KeepsStep (λ _. R) (λ i. most (after step i a)) (λ i. after step i a) (λ m. after step' m b)
  pub between : (i j : ℕ) → keeps.moment i ≤ j → j < keeps.moment (i + 1) → Q (after step i a) (after step' j b)

-- so many bounds from one on, summed up
abbrev pub sum_from : (ℕ → ℕ) → ℕ → ℕ → ℕ
sum_from most first zero = 0
sum_from most first (suc count) = most first + sum_from most (suc first) count

-- The step of a run at a number lies between two moments.
pub record IsBetween (moment : ℕ → ℕ) (low high j : ℕ) : Type 0 where
  pub k : ℕ
  pub above : low ≤ k
  pub below : k < high
  pub from : moment k ≤ j
  pub upto : j < moment (k + 1)
