use Rattle.std.proofs.Common.{◌≡◌, drop}
use Rattle.il_verify.specs.Ranges.{begins_range}
use Rattle.il_verify.proofs.ranges.begins_range.Given as goal

abbrev pub invariant-loop-clause : goal.invariant-loop-clause
invariant-loop-clause l = begins_range l.clauses l.offset ≡ begins_range (drop l.clause-index l.clauses) l.offset
