use Rattle.std.proofs.Common.{Some, length}
use Rattle.link_lists.specs.Chains.{places}
use Rattle.dep_core.specs.declared.waiting.Waiter.{Waiter}
use Rattle.dep_core.specs.Awaited.{waiting_links}
use Rattle.dep_core.specs.UnderWay.{mark_of}
use Rattle.dep_core.proofs.TellingChain.{IsTellingChain}
use Rattle.dep_core.proofs.waiting.tell_chain.Given as goal

abbrev pub invariant-loop-waiter : goal.invariant-loop-waiter
invariant-loop-waiter g l =
    IsTellingChain (λ (w : Waiter g.row.N.Denot). mark_of w.node w.rule (Some w.from) (Some l.fn.also)) l.fn.records
    l.records l.fn.chain l.left l.fn.told.items l.told.items

abbrev pub decreases-loop-waiter : goal.decreases-loop-waiter
decreases-loop-waiter g l = length (places l.left (waiting_links l.records))
