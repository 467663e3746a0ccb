use Rattle.std.proofs.Common.{◌≡◌, ◌-◌}
use Rattle.md_rows.specs.Widths.{first_refused, refused_from}
use Rattle.md_rows.proofs.header.first_refused.Given as goal

-- the tables that were looked at aren't refused
abbrev pub invariant-loop-table : goal.invariant-loop-table
invariant-loop-table l = first_refused l.mask ≡ refused_from l.mask (64 - l.table) l.table
