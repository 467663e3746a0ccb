use Rattle.std.proofs.Common.{◌≤◌, ◌≡◌, drop, map}
use Rattle.image_plan.specs.Places.{code_size, end_of}
use Rattle.image_plan.proofs.ends.code_end.Given as goal

abbrev pub invariant-loop-piece : goal.invariant-loop-piece
invariant-loop-piece l = record {
  end : end_of l.begin (map code_size l.pieces) ≡ end_of l.at (map code_size (drop l.piece-index l.pieces));
  above : l.begin ≤ l.at;
}
