use Rattle.std.proofs.Common.{◌≡◌, ◌++◌, ◌<◌, ◌^◌, drop, map}
use Rattle.image_plan.specs.Places.{code_size, end_of}
use Rattle.image_plan.specs.Planned.{code_parts}
use Rattle.image_plan.proofs.parts.add_bodies.Given as goal

abbrev pub invariant-loop-piece : goal.invariant-loop-piece
invariant-loop-piece l = record {
  parts : l.initial.parts ++ code_parts l.begin l.pieces ≡ l.parts ++ code_parts l.at (drop l.piece-index l.pieces);
  below : end_of l.at (map code_size (drop l.piece-index l.pieces)) < 2 ^ 32;
}
