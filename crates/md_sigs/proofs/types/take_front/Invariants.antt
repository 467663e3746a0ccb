use Rattle.std.proofs.Common.{deque_len}
use Rattle.md_sigs.proofs.Runs.{IsTaking}
use Rattle.md_sigs.proofs.types.take_front.Given as goal

abbrev pub invariant-loop-types : goal.invariant-loop-types
invariant-loop-types l = IsTaking l.count l.initial.types.items l.front l.types.items

abbrev pub decreases-loop-types : goal.decreases-loop-types
decreases-loop-types l = deque_len l.types
