-- That a label which lies close where all lines take their longest forms lies close at the places that they have.
use Rattle.std.specs.Prelude.{ℕ, ◌+◌, ◌≤◌, ◌⊎◌}

-- a label in front of a line: its place in the longest form and its own aren't behind the line's, and it is no farther
-- from it
pub record IsBehind (far_at at far place : ℕ) : Type 0 where
  pub far_first : far ≤ far_at
  pub first : place ≤ at
  pub no_farther : at + far ≤ far_at + place

-- a label at the line or behind it
pub record IsAhead (far_at at far place : ℕ) : Type 0 where
  pub far_last : far_at ≤ far
  pub last : at ≤ place
  pub no_farther : place + far_at ≤ far + at

abbrev pub IsInStep : ℕ → ℕ → ℕ → ℕ → Type 0
IsInStep far_at at far place = IsBehind far_at at far place ⊎ IsAhead far_at at far place
