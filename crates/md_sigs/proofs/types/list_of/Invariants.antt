use Rattle.std.proofs.Common.{◌≡◌, ◌++◌, deque_len}
use Rattle.md_sigs.proofs.types.list_of.Given as goal

abbrev pub invariant-loop-ty : goal.invariant-loop-ty
invariant-loop-ty l = l.list ++ l.types.items ≡ l.initial.types.items

abbrev pub decreases-loop-ty : goal.decreases-loop-ty
decreases-loop-ty l = deque_len l.types
