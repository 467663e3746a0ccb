use Rattle.std.proofs.Common.{◌≡◌, drop}
use Rattle.il_verify.specs.Ranges.{is_in_range}
use Rattle.il_verify.proofs.ranges.is_in_range.Given as goal

abbrev pub invariant-loop-clause : goal.invariant-loop-clause
invariant-loop-clause l = is_in_range l.clauses l.offset ≡ is_in_range (drop l.clause-index l.clauses) l.offset
