use Rattle.std.proofs.Common.{◌≡◌, ◌+◌, ◌*◌, ◌-◌, ◌≤◌, length}
use Rattle.ty_load.specs.Cycles.{all_ids}
use Rattle.ty_texts.proofs.Repeats.{ids_from}
use Rattle.ty_texts.proofs.repeated.count_all.Given as goal

-- those counted so far, and those from a module on
abbrev pub invariant-loop-module : goal.invariant-loop-module
invariant-loop-module l = record {
  within : l.module ≤ length l.names;
  bound : l.count ≤ l.module * 4294967296;
  so_far : length (all_ids l.names) ≡ l.count + length (ids_from l.names l.module);
}

abbrev pub decreases-loop-module : goal.decreases-loop-module
decreases-loop-module l = length l.names - l.module
