use Rattle.std.proofs.Common.{◌≤◌, ◌-◌, length, vec_len}
use Rattle.ty_load.specs.Named.{AreTypeTables}
use Rattle.ty_load.proofs.names.type_tables.Given as goal

abbrev pub invariant-loop-alloc : goal.invariant-loop-alloc
invariant-loop-alloc l = record {
  within : vec_len l.types ≤ length l.modules;
  told : AreTypeTables l.modules l.types.items;
}

abbrev pub decreases-loop-alloc : goal.decreases-loop-alloc
decreases-loop-alloc l = length l.modules - vec_len l.types
