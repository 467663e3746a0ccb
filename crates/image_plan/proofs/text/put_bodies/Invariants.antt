use Rattle.std.proofs.Common.{◌≡◌, ◌++◌, ◌<◌, ◌^◌, true, drop, map}
use Rattle.std.specs.List.{list_all}
use Rattle.image_plan.specs.Found.{address_in}
use Rattle.image_plan.specs.Places.{code_size, end_of}
use Rattle.image_plan.specs.Planned.{code_fixes_fit}
use Rattle.image_plan.specs.Written.{code_bytes}
use Rattle.image_plan.proofs.text.put_bodies.Given as goal

abbrev pub invariant-loop-piece : goal.invariant-loop-piece
invariant-loop-piece l = record {
  text : l.initial.text ++ code_bytes (address_in l.addresses.found.entries) l.begin l.pieces
      ≡ l.text ++ code_bytes (address_in l.addresses.found.entries) l.at (drop l.piece-index l.pieces);
  below : end_of l.at (map code_size (drop l.piece-index l.pieces)) < 2 ^ 32;
  fits : list_all code_fixes_fit (drop l.piece-index l.pieces) ≡ true;
}
