use Rattle.dep_core.proofs.Awaiting.{popped_none, takes_first}
use Rattle.dep_core.proofs.waiting.take_first.Goals as goal

pub returns-in_err-at-clause-spares : goal.returns-in_err-at-clause-spares
returns-in_err-at-clause-spares g c =
    popped_none c.args.records.now c.pop_front.new.pool c.args.chain.now c.in_err-at.ensures.places
    c.pop_front.ensures.rests c.pop_front.ensures.others

pub returns-clause-waiter : goal.returns-clause-waiter
returns-clause-waiter g c =
    (takes_first c.args.records.now c.pop_front.new.pool c.take_waiter.new.records c.args.chain.now
    c.pop_front.new.self c.in_ok-at.at c.take_waiter.result c.requires c.in_ok-at.ensures.places
    c.pop_front.ensures.sound c.pop_front.ensures.rests c.pop_front.ensures.others c.take_waiter.ensures.waiter
    c.take_waiter.ensures.held c.take_waiter.ensures.links).waiters

pub returns-clause-spares : goal.returns-clause-spares
returns-clause-spares g c =
    (takes_first c.args.records.now c.pop_front.new.pool c.take_waiter.new.records c.args.chain.now
    c.pop_front.new.self c.in_ok-at.at c.take_waiter.result c.requires c.in_ok-at.ensures.places
    c.pop_front.ensures.sound c.pop_front.ensures.rests c.pop_front.ensures.others c.take_waiter.ensures.waiter
    c.take_waiter.ensures.held c.take_waiter.ensures.links).spares
