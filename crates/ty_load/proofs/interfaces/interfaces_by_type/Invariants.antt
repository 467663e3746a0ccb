use Rattle.std.proofs.Common.{take}
use Rattle.ty_load.specs.Implements.{TellImplemented}
use Rattle.ty_load.proofs.interfaces.interfaces_by_type.Given as goal

-- so far those of so many rows
abbrev pub invariant-loop-row : goal.invariant-loop-row
invariant-loop-row l = TellImplemented (take l.row-index l.given) l.found.entries
