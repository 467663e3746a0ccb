-- What is added to what a sink holds.
use Rattle.std.specs.Prelude.{◌≡◌, ℕ, List, ◌++◌, Option}
use Rattle.std.specs.Option.{option_map}
use Rattle.ilc_io.specs.Count.{HasRisen}
use Rattle.ilc.specs.Seen.{StreamsSeen}

-- the sink holds these bytes more, where it tells what it holds
abbrev pub Adds : List ℕ → Option (List ℕ) → Option (List ℕ) → Type 0
Adds bytes old new = new ≡ option_map (λ held. held ++ bytes) old

-- it holds the first of these bytes more
pub record AddsFront (bytes : List ℕ) (old new : Option (List ℕ)) : Type 0 where
  pub front : List ℕ
  pub rest : List ℕ
  pub whole : bytes ≡ front ++ rest
  pub added : Adds front old new

-- nothing was read, and nothing was written but error text
pub record SameButError (before now : StreamsSeen) : Type 0 where
  pub rest : now.outside.rest ≡ before.outside.rest
  pub output : now.outside.output ≡ before.outside.output
  pub input_faults : now.input_faults ≡ before.input_faults
  pub output_faults : now.output_faults ≡ before.output_faults

-- a line was printed as error text, and nothing else was read or written
abbrev pub Prints : List ℕ → StreamsSeen → StreamsSeen → Type 0
Prints line before now = SameButError before now × Adds line before.outside.error now.outside.error

-- the front of a line was printed as error text, where a write failed and the sink counted it
abbrev pub BreaksOff : List ℕ → StreamsSeen → StreamsSeen → Type 0
BreaksOff line before now =
    SameButError before now
    × AddsFront line before.outside.error now.outside.error
    × HasRisen before.error_faults now.error_faults

-- nothing was read, and nothing was written but output
pub record SameButOutput (before now : StreamsSeen) : Type 0 where
  pub rest : now.outside.rest ≡ before.outside.rest
  pub error : now.outside.error ≡ before.outside.error
  pub input_faults : now.input_faults ≡ before.input_faults
  pub error_faults : now.error_faults ≡ before.error_faults

-- a text was written as output, and nothing else was read or written
abbrev pub Writes : List ℕ → StreamsSeen → StreamsSeen → Type 0
Writes text before now = SameButOutput before now × Adds text before.outside.output now.outside.output

-- the front of a text was written as output, where a write failed and the sink counted it
abbrev pub WritesFront : List ℕ → StreamsSeen → StreamsSeen → Type 0
WritesFront text before now =
    SameButOutput before now
    × AddsFront text before.outside.output now.outside.output
    × HasRisen before.output_faults now.output_faults
