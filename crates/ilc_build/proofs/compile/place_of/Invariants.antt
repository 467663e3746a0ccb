use Rattle.std.proofs.Common.{◌≡◌, ◌+◌, ◌*◌, ◌≤◌, drop}
use Rattle.ilc_build.specs.Code.{place_of}
use Rattle.ilc_build.proofs.compile.place_of.Given as goal

abbrev pub invariant-loop-index : goal.invariant-loop-index
invariant-loop-index l = record {
  value : place_of l.instrs l.table l.offset ≡ l.place + place_of (drop l.index l.instrs) (drop l.index l.table)
      l.offset;
  bound : l.place ≤ 5 * l.index;
}
