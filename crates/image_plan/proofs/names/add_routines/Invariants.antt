use Rattle.std.proofs.Common.{◌≡◌, ◌++◌, drop}
use Rattle.image_plan.specs.Places.{routine_names}
use Rattle.image_plan.proofs.names.add_routines.Given as goal

abbrev pub invariant-loop-begin : goal.invariant-loop-begin
invariant-loop-begin l = record {
  names : l.initial.names ++ routine_names 0 l.begins ≡ l.names ++ routine_names l.number (drop l.begin-index l.begins);
  number : l.number ≡ l.begin-index;
}
