-- What a run has done to its streams from one moment to a later one.
use Rattle.std.specs.Prelude.{◌≡◌, ℕ, List, ◌++◌}
use Rattle.num_core.specs.Run.{Run, Running, Ended, Stopped, Streams}

-- what the world sees of a run
abbrev pub streams_of : {State Cause : Type 0} → Run State Cause → Streams
streams_of (Running state streams) = streams
streams_of (Ended status streams) = streams
streams_of (Stopped cause streams) = streams

-- From the first of the input some bytes were taken, and some were added behind the output and the error text.
pub record IsLater (before now : Streams) : Type 0 where
  pub taken : (bytes : List ℕ) × (before.input ≡ bytes ++ now.input)
  pub written : (bytes : List ℕ) × (now.output ≡ before.output ++ bytes)
  pub told : (bytes : List ℕ) × (now.error ≡ before.error ++ bytes)
