-- A table with a row for each offset, in which what control comes to has a fact.
use Rattle.std.specs.Prelude.{ℕ, ◌+◌, Bool, ◌&&◌, nat_le, List, [], ◌∷◌, Option, Some, None, is_some}
use Rattle.least_flow.specs.Solution.{row}
use Rattle.il_code.specs.Reach.{falls_through}
use Rattle.il_code.specs.declared.body.Instr.{Instr}

-- what control passes on from an offset to another says no more than that it comes there
abbrev pub fact_of : ℕ → ℕ × Unit {0}
fact_of to = (to, tt)

-- the offsets that have a fact, in the rows from a place on
abbrev pub known_from : ℕ → List (Option (Unit {0})) → List ℕ
known_from place [] = []
known_from place (None ∷ table) = known_from (place + 1) table
known_from place (Some fact ∷ table) = place ∷ known_from (place + 1) table

-- control comes to the instruction and goes on past the end of the code
abbrev pub is_past : List (Option (Unit {0})) → ℕ → Instr → Bool
is_past table end i = falls_through i.op && (nat_le end i.next && is_some (row table i.at))
