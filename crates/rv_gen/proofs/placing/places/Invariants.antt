use Rattle.std.proofs.Common.{◌≡◌, ◌*◌, ◌≤◌, ◌++◌, drop}
use Rattle.rv_gen.specs.Placing.{places_from}
use Rattle.rv_gen.proofs.placing.places.Given as goal

abbrev pub invariant-loop-line : goal.invariant-loop-line
invariant-loop-line l = record {
  places : places_from l.far 0 0 l.lines ≡ l.places ++ places_from l.far l.far_at l.at (drop l.line-index l.lines);
  few : l.at ≤ 3 * l.line-index;
  far_few : l.far_at ≤ 3 * l.line-index;
}
