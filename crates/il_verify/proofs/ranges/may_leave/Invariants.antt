use Rattle.std.proofs.Common.{◌≡◌, drop}
use Rattle.il_verify.specs.Ranges.{may_leave}
use Rattle.il_verify.proofs.ranges.may_leave.Given as goal

abbrev pub invariant-loop-clause : goal.invariant-loop-clause
invariant-loop-clause l = may_leave l.clauses l.from l.to ≡ may_leave (drop l.clause-index l.clauses) l.from l.to
