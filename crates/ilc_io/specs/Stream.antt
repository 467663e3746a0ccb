-- What is known of a source over a reader of std, or a sink over a writer.
use Rattle.std.specs.Prelude.{ℕ, List, Bool, true, false, Option, None}

-- what it tells of its bytes, and how many calls have failed
pub record Stream : Type 0 where
  pub told : Option (List ℕ)
  pub faults : ℕ

-- what std knows, where it is told
abbrev pub told_by : Bool → Option (List ℕ) → Option (List ℕ)
told_by true known = known
told_by false known = None
