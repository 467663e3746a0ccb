use Rattle.std.proofs.Common.{◌≡◌, ◌*◌, ◌≤◌, ◌++◌, drop}
use Rattle.rv_gen.specs.Placing.{far_places}
use Rattle.rv_gen.proofs.placing.far_places.Given as goal

abbrev pub invariant-loop-line : goal.invariant-loop-line
invariant-loop-line l = record {
  places : far_places 0 l.lines ≡ l.places ++ far_places l.at (drop l.line-index l.lines);
  few : l.at ≤ 3 * l.line-index;
}
