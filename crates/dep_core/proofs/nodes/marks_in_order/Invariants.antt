use Rattle.dep_core.proofs.InOrder.{AreReadUpTo}
use Rattle.dep_core.proofs.nodes.marks_in_order.Given as goal

-- the marks of the places that are left come behind those that were copied
abbrev pub invariant-loop-place : goal.invariant-loop-place
invariant-loop-place g l = AreReadUpTo l.nodes.marks l.marks l.place-iterator
