use Rattle.std.proofs.Common.{◌≡◌, ◌++◌, ◌<◌, ◌^◌, drop, map}
use Rattle.image_plan.specs.Places.{code_names, code_size, end_of}
use Rattle.image_plan.proofs.names.add_bodies.Given as goal

abbrev pub invariant-loop-piece : goal.invariant-loop-piece
invariant-loop-piece l = record {
  names : l.initial.names ++ code_names l.begin l.pieces ≡ l.names ++ code_names l.at (drop l.piece-index l.pieces);
  below : end_of l.at (map code_size (drop l.piece-index l.pieces)) < 2 ^ 32;
}
