use Rattle.std.proofs.Common.{◌≡◌, ◌-◌, ◌≤◌, length, find}
use Rattle.ty_load.specs.Valid.{has_earlier_text, repeated_type}
use Rattle.ty_texts.proofs.Repeats.{ids_from}
use Rattle.ty_texts.proofs.repeated.repeated_type.Given as goal

-- the first from a module on is the first of all
abbrev pub invariant-loop-module : goal.invariant-loop-module
invariant-loop-module l = record {
  within : l.module ≤ length l.names;
  so_far : repeated_type l.names ≡ find (has_earlier_text l.names) (ids_from l.names l.module);
}

abbrev pub decreases-loop-module : goal.decreases-loop-module
decreases-loop-module l = length l.names - l.module
