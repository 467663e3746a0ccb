use Rattle.std.proofs.Common.{◌≡◌, ◌≤◌, ◌*◌, length}
use Rattle.ty_walks.proofs.Listed.{first_ids}
use Rattle.ty_walks.proofs.assigning.definition_count.Given as goal

abbrev pub invariant-loop-module : goal.invariant-loop-module
invariant-loop-module l = record {
  counted : l.count ≡ length (first_ids l.names l.module);
  few : l.count ≤ 4294967295 * l.module;
}
