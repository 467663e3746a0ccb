-- The two sides of nodes that meet.
use Rattle.std.specs.Prelude.{ℕ, Bool, List}
use Rattle.dep_core.specs.declared.giving.Side.{Side}
use Rattle.dep_core.specs.declared.giving.Side.TheVariants.{Seeking, Sought}
use Rattle.dep_core.specs.UnderWay.{MeetAt}

module _ {N : Type 0} where
  -- what says that a node can be on this side
  abbrev pub can_be_on : Side → (N → Bool) → (N → Bool) → N → Bool
  can_be_on Seeking can_seek can_be_sought = can_seek
  can_be_on Sought can_seek can_be_sought = can_be_sought

  -- what the node at a place on this side and one at a place on the other give where they meet
  abbrev pub MeetOn : Side → (N → N → N → ℕ → Type 0) → List N → ℕ → ℕ → N → Type 0
  MeetOn Seeking meets ns place other = MeetAt meets ns place other
  MeetOn Sought meets ns place other = MeetAt meets ns other place
