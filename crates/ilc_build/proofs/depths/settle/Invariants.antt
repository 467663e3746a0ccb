use Rattle.std.proofs.Common.{◌≡◌, ◌-◌, ◌*◌, List, length}
use Rattle.ilc_build.specs.Depths.{AllBelow, IsSolution, IsBelow, known_at}
use Rattle.ilc_build.specs.Raising.{AreShallow, ranks}
use Rattle.ilc_build.specs.declared.depths.Known.{Known}
use Rattle.ilc_build.specs.declared.depths.Known.TheVariants.{Depth}
use Rattle.ilc_build.proofs.depths.settle.Given as goal

abbrev pub invariant-loop : goal.invariant-loop
invariant-loop l = record {
  size : length l.table ≡ length l.instrs;
  shallow : AreShallow l.table;
  first : IsBelow (Depth 0) (known_at l.instrs l.table 0);
  below : (other : List Known) → IsSolution l.instrs other → AllBelow l.table other;
}

abbrev pub decreases-loop : goal.decreases-loop
decreases-loop l = 2 * length l.table - ranks l.table
