-- What contracts see of the records of the marked nodes.
use Rattle.std.specs.Prelude.{ℕ, List}
use Rattle.dep_core.specs.declared.mark.Mark.{Mark}

-- the marks, in the order in which the nodes were marked, and the places that wait for work
pub record Noted (N : Type 0) : Type 0 where
  pub marks : List (Mark N)
  pub work : List ℕ
