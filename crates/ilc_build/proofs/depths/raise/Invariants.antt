use Rattle.std.proofs.Common.{◌≡◌}
use Rattle.ilc_build.proofs.Rows.{StandElsewhere}
use Rattle.ilc_build.proofs.depths.raise.Given as goal

abbrev pub invariant-loop-index : goal.invariant-loop-index
invariant-loop-index l = record {
  same : l.table ≡ l.fn.table;
  elsewhere : StandElsewhere l.instrs l.offset l.index;
}
