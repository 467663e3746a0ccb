use Rattle.std.proofs.Common.{◌≡◌, ◌<◌, ℕ, false}
use Rattle.ilc_build.specs.Depths.{IsClosedAt}
use Rattle.ilc_build.specs.Raising.{Raised, StaysBelow}
use Rattle.ilc_build.proofs.depths.spread.Given as goal

abbrev pub invariant-loop-index : goal.invariant-loop-index
invariant-loop-index l = record {
  raised : Raised l.fn.table l.table l.raised;
  below : StaysBelow l.instrs l.fn.table l.table;
  closed : l.raised ≡ false → (n : ℕ) → n < l.index → IsClosedAt l.instrs l.table n;
}
