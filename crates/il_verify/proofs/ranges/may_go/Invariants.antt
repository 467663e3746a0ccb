use Rattle.std.proofs.Common.{◌≡◌, drop}
use Rattle.il_verify.specs.Ranges.{may_go}
use Rattle.il_verify.proofs.ranges.may_go.Given as goal

abbrev pub invariant-loop-clause : goal.invariant-loop-clause
invariant-loop-clause l = may_go l.clauses l.from l.to ≡ may_go (drop l.clause-index l.clauses) l.from l.to
