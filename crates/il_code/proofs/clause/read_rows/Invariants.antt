use Rattle.std.proofs.Common.{◌≡◌, ◌-◌, ◌≤◌, length}
use Rattle.il_code.specs.Clauses.{rows_from}
use Rattle.il_code.proofs.Sections.{behind_rows}
use Rattle.il_code.proofs.clause.read_rows.Given as goal

-- the clauses are those that were read and those of the sections that are left
abbrev pub invariant-loop-section : goal.invariant-loop-section
invariant-loop-section l = record {
  rows : rows_from (length l.bytes) l.bytes l.initial.end ≡ behind_rows l.rows
      (rows_from (length l.bytes - l._section) l.bytes l.end);
  few : length l.rows ≤ l.end;
  fits : l.end ≤ length l.bytes;
}
