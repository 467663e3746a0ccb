use Rattle.std.proofs.Common.{◌≡◌, drop, map, take}
use Rattle.il_code.specs.Clauses.{bad_from, clause_of}
use Rattle.il_code.proofs.clause.check_clauses.Given as goal

-- none of those that were looked at is bad
abbrev pub invariant-loop-number : goal.invariant-loop-number
invariant-loop-number l = record {
  first : bad_from l.instrs l.end l.rows 0 l.rows ≡ bad_from l.instrs l.end l.rows l.number (drop l.number l.rows);
  clauses : l.clauses ≡ map clause_of (take l.number l.rows);
}
