use Rattle.std.proofs.Common.{◌≡◌, ◌≤◌, ◌++◌, drop}
use Rattle.ty_layout.specs.Objects.{parts_places, parts_end}
use Rattle.ty_layout.proofs.laid.place_parts.Given as goal

-- the places so far, and those of the parts that are left
abbrev pub invariant-loop-part : goal.invariant-loop-part
invariant-loop-part l = record {
  limit : l.at ≤ 65536;
  end : parts_end 8 l.parts ≡ parts_end l.at (drop l.part-index l.parts);
  places : l.initial.found ++ parts_places 8 l.parts ≡ l.found ++ parts_places l.at (drop l.part-index l.parts);
}
