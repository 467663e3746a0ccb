use Rattle.std.proofs.Common.{◌≤◌, ◌-◌, length, vec_len}
use Rattle.ty_members.proofs.Tables.{AreTables}
use Rattle.ty_members.proofs.members.member_tables.Given as goal

abbrev pub invariant-loop-alloc : goal.invariant-loop-alloc
invariant-loop-alloc l = record {
  within : vec_len l.tables ≤ length l.names;
  told : AreTables l.names l.tables.items;
}

abbrev pub decreases-loop-alloc : goal.decreases-loop-alloc
decreases-loop-alloc l = length l.names - vec_len l.tables
