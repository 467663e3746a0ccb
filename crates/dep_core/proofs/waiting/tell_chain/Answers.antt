use Rattle.std.proofs.Common.{Some, ap, arith, length}
use Rattle.dep_core.specs.declared.mark.Mark.{Mark}
use Rattle.dep_core.specs.declared.waiting.Waiter.{Waiter}
use Rattle.dep_core.specs.UnderWay.{mark_of}
use Rattle.dep_core.proofs.TellingChain.{chain_none, chain_more, chain_spares, chain_all}
use Rattle.dep_core.proofs.waiting.tell_chain.Goals as goal

pub loop-waiter-init : goal.loop-waiter-init
loop-waiter-init g c =
    let mark : Waiter g.row.N.Denot → Mark g.row.N.Denot = λ w. mark_of w.node w.rule (Some w.from) (Some c.args.also)
    in
    chain_none mark c.args.records.now c.args.chain c.args.told.now.items c.requires

pub take_first-requires : goal.take_first-requires
take_first-requires g c = c.loop-waiter.invariant.sound

pub loop-waiter-smaller : goal.loop-waiter-smaller
loop-waiter-smaller g c = omega (arith, ap length c.in-Some.ensures.places.1)

pub loop-waiter-preserved : goal.loop-waiter-preserved
loop-waiter-preserved g c =
    let mark : Waiter g.row.N.Denot → Mark g.row.N.Denot = λ w. mark_of w.node w.rule (Some w.from) (Some c.args.also)
    in
    chain_more mark c.args.records.now c.loop-waiter.records c.take_first.new.records c.args.chain c.loop-waiter.left
    c.take_first.new.chain c.in-Some.waiter c.args.told.now.items c.loop-waiter.told.items c.tell_waiter.new.told.items
    c.loop-waiter.invariant c.in-Some.ensures.sound c.in-Some.ensures.places c.in-Some.ensures.waiter
    c.in-Some.ensures.spares c.in_ok-tell_waiter.ensures

pub returns-in_err-tell_waiter-clause-spares : goal.returns-in_err-tell_waiter-clause-spares
returns-in_err-tell_waiter-clause-spares g c =
    let mark : Waiter g.row.N.Denot → Mark g.row.N.Denot = λ w. mark_of w.node w.rule (Some w.from) (Some c.args.also)
    in
    chain_spares mark c.args.records.now c.loop-waiter.records c.take_first.new.records c.args.chain c.loop-waiter.left
    c.args.told.now.items c.loop-waiter.told.items c.loop-waiter.invariant c.in-Some.ensures.spares

pub returns-clause-told : goal.returns-clause-told
returns-clause-told g c =
    let mark : Waiter g.row.N.Denot → Mark g.row.N.Denot = λ w. mark_of w.node w.rule (Some w.from) (Some c.args.also)
    in
    chain_all mark c.args.records.now c.loop-waiter.records c.take_first.new.records c.args.chain c.loop-waiter.left
    c.args.told.now.items c.loop-waiter.told.items c.loop-waiter.invariant c.in_default.ensures.places

pub returns-clause-spares : goal.returns-clause-spares
returns-clause-spares g c =
    let mark : Waiter g.row.N.Denot → Mark g.row.N.Denot = λ w. mark_of w.node w.rule (Some w.from) (Some c.args.also)
    in
    chain_spares mark c.args.records.now c.loop-waiter.records c.take_first.new.records c.args.chain c.loop-waiter.left
    c.args.told.now.items c.loop-waiter.told.items c.loop-waiter.invariant c.in_default.ensures.spares
