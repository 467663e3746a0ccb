use Rattle.std.proofs.Common.{◌≡◌, drop}
use Rattle.il_verify.specs.Ranges.{is_in_catch}
use Rattle.il_verify.proofs.ranges.is_in_catch.Given as goal

abbrev pub invariant-loop-clause : goal.invariant-loop-clause
invariant-loop-clause l = is_in_catch l.clauses l.offset ≡ is_in_catch (drop l.clause-index l.clauses) l.offset
