use Rattle.std.proofs.Common.{take}
use Rattle.ilc_build.specs.Raising.{IsTold}
use Rattle.ilc_build.proofs.depths.raise_all.Given as goal

abbrev pub invariant-loop-offset : goal.invariant-loop-offset
invariant-loop-offset l = IsTold l.instrs l.known (take l.offset-index l.offsets) l.fn.table l.table l.raised
