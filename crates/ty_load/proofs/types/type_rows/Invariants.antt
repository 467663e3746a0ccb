use Rattle.std.proofs.Common.{◌≤◌}
use Rattle.ty_names.specs.Definitions.{type_count}
use Rattle.ty_load.proofs.Keys.{TellTypesBehind}
use Rattle.ty_load.proofs.types.type_rows.Given as goal

abbrev pub invariant-loop-left : goal.invariant-loop-left
invariant-loop-left l = record {
  within : l.left ≤ type_count l.tables;
  told : TellTypesBehind l.tables l.left l.rows.entries;
}

abbrev pub decreases-loop-left : goal.decreases-loop-left
decreases-loop-left l = l.left
