use Rattle.std.proofs.Common.{◌≡◌, ◌*◌, ◌≤◌, ◌++◌, drop}
use Rattle.rv_gen.specs.Placing.{code_from}
use Rattle.rv_gen.proofs.Near.{Stands}
use Rattle.rv_gen.proofs.placing.code.Given as goal

abbrev pub invariant-loop-line : goal.invariant-loop-line
invariant-loop-line l = record {
  code : code_from l.far l.places 0 0 l.lines
      ≡ l.code ++ code_from l.far l.places l.far_at l.at (drop l.line-index l.lines);
  stands : Stands l.far l.places l.far_at l.at (drop l.line-index l.lines);
  few : l.at ≤ 3 * l.line-index;
  far_few : l.far_at ≤ 3 * l.line-index;
}
