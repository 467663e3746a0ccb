use Rattle.std.proofs.Common.{◌≡◌, ◌-◌, ◌≤◌, max}
use Rattle.std.specs.List.{range_with_len}
use Rattle.world_layouts.specs.Rows.{placed_among}
use Rattle.world_layouts.proofs.fields.fields.Given as goal

abbrev pub invariant-loop-row : goal.invariant-loop-row
invariant-loop-row l = record {
  among : l.found ≡ placed_among l.members l.id l.stands (range_with_len l.begin (l.row - l.begin));
  reach : l.row ≤ max l.begin l.end;
}
