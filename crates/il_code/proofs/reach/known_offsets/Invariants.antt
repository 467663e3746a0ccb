use Rattle.std.proofs.Common.{◌≡◌, ◌++◌, drop}
use Rattle.il_code.specs.Marks.{known_from}
use Rattle.il_code.proofs.reach.known_offsets.Given as goal

-- those that were found and those of the rows that are left
abbrev pub invariant-loop-offset : goal.invariant-loop-offset
invariant-loop-offset l = known_from 0 l.table ≡ l.offsets ++ known_from l.offset (drop l.offset l.table)
