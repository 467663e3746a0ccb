use Rattle.std.proofs.Common.{◌≡◌, ◌≤◌, drop, length}
use Rattle.il_verify.specs.Ranges.{innermost}
use Rattle.il_verify.proofs.ranges.innermost.Given as goal

-- what was found is innermost among the clauses that aren't left
abbrev pub invariant-loop-left : goal.invariant-loop-left
invariant-loop-left l = (l.left ≤ length l.clauses) × (l.found ≡ innermost (drop l.left l.clauses) l.offset)

abbrev pub decreases-loop-left : goal.decreases-loop-left
decreases-loop-left l = l.left
