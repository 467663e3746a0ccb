use Rattle.std.proofs.Common.{◌≡◌, ◌++◌, drop, map}
use Rattle.image_plan.specs.Planned.{map_row}
use Rattle.image_plan.proofs.map.add_rows.Given as goal

abbrev pub invariant-loop-row : goal.invariant-loop-row
invariant-loop-row l = l.initial.map ++ map (map_row l.begin l.method) l.rows ≡ l.map ++ map (map_row l.begin l.method) (drop l.row-index l.rows)
