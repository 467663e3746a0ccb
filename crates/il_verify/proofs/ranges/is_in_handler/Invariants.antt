use Rattle.std.proofs.Common.{◌≡◌, drop}
use Rattle.il_verify.specs.Ranges.{is_in_handler}
use Rattle.il_verify.proofs.ranges.is_in_handler.Given as goal

abbrev pub invariant-loop-clause : goal.invariant-loop-clause
invariant-loop-clause l = is_in_handler l.clauses l.offset ≡ is_in_handler (drop l.clause-index l.clauses) l.offset
