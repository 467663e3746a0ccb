use Rattle.std.proofs.Common.{◌≡◌, ◌++◌, ◌<◌, ◌^◌, drop, map}
use Rattle.image_plan.specs.Places.{code_size, end_of}
use Rattle.image_plan.specs.Planned.{map_rows}
use Rattle.image_plan.proofs.map.map.Given as goal

abbrev pub invariant-loop-piece : goal.invariant-loop-piece
invariant-loop-piece l = record {
  rows : map_rows l.begin l.pieces ≡ l.rows ++ map_rows l.at (drop l.piece-index l.pieces);
  below : end_of l.at (map code_size (drop l.piece-index l.pieces)) < 2 ^ 32;
}
