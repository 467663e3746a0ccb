use Rattle.std.proofs.Common.{◌≡◌, OnOk, Some, None, refl, sym, ap, ◌∙◌, subst}
use Rattle.std.specs.BTreeMap.{get}
use Rattle.dep_core.specs.declared.mark.Mark.{Mark}
use Rattle.dep_core.specs.declared.waiting.Waiter.{Waiter}
use Rattle.dep_core.specs.Awaited.{waiters_in}
use Rattle.dep_core.specs.UnderWay.{AreTold, mark_of, waiters_of}
use Rattle.dep_core.proofs.Finding.{chain_sound, chain_waiters, chained_after, found_in, none_now, others_after}
use Rattle.dep_core.proofs.Finding.{told_stay, waiters_found}
use Rattle.dep_core.proofs.waiting.Waiting.tell.Goals as goal

pub tell_chain-requires : goal.tell_chain-requires
tell_chain-requires g c =
    let records = c.self.inside.records in let chains = c.self.inside.chains in
    chain_sound g.N.Ord.cmp g.met.N.Ord.total records records chains c.args.node.now c.self.invariant
    (get g.N.Ord.cmp chains c.args.node.now) refl c.take_chain-chain.result c.take_chain-chain.ensures.chain

pub invariant_of-self : goal.invariant_of-self
invariant_of-self g c =
    let records = c.self.inside.records in let chains = c.self.inside.chains in
    let new = c.tell_chain.new.records in let node = c.args.node.now in
    let stay = told_stay g.N.Ord.cmp g.met.N.Ord.total records new chains node c.self.invariant
    c.take_chain-chain.result c.take_chain-chain.ensures.chain c.tell_chain.ensures.spares in
    chained_after g.N.Ord.cmp g.met.N.Ord.total records new chains node c.self.invariant stay
    c.take_chain-chain.new.chains None c.take_chain-chain.ensures.updates.0
    (none_now g.N.Ord.cmp g.met.N.Ord.total records new chains node c.self.invariant)

pub returns-clause-told : goal.returns-clause-told
returns-clause-told g c =
    let records = c.self.inside.records in let chains = c.self.inside.chains in let node = c.args.node.now in
    let mark : Waiter g.row.N.Denot → Mark g.row.N.Denot = λ w. mark_of w.node w.rule (Some w.from) (Some c.args.also)
    in
    let same : waiters_in records c.take_chain-chain.result ≡ waiters_of g.N.Ord.cmp c.args.self.now node =
    chain_waiters g.N.Ord.cmp g.met.N.Ord.total records records chains node c.self.invariant
    (get g.N.Ord.cmp chains node) c.take_chain-chain.result c.take_chain-chain.ensures.chain
    ∙ sym (waiters_found g.N.Ord.cmp records chains.entries node)
    ∙ ap (λ w. waiters_of g.N.Ord.cmp w node) c.self.view_is in
    subst (λ l. OnOk c.tell_chain.result (AreTold mark l c.args.told.now.items c.tell_chain.new.told.items)) same
    c.tell_chain.ensures.told

pub returns-clause-here : goal.returns-clause-here
returns-clause-here g c =
    waiters_found g.N.Ord.cmp c.tell_chain.new.records c.take_chain-chain.new.chains.entries c.args.node.now
    ∙ ap (found_in c.tell_chain.new.records) c.take_chain-chain.ensures.updates.1

pub returns-clause-there : goal.returns-clause-there
returns-clause-there g c = λ other ne.
    let records = c.self.inside.records in let chains = c.self.inside.chains in
    let new = c.tell_chain.new.records in let node = c.args.node.now in
    let stay = told_stay g.N.Ord.cmp g.met.N.Ord.total records new chains node c.self.invariant
    c.take_chain-chain.result c.take_chain-chain.ensures.chain c.tell_chain.ensures.spares in
    others_after g.N.Ord.cmp g.met.N.Ord.total records new chains node c.self.invariant stay
    c.take_chain-chain.new.chains None c.take_chain-chain.ensures.updates.0
    (none_now g.N.Ord.cmp g.met.N.Ord.total records new chains node c.self.invariant) other ne
    ∙ ap (λ w. waiters_of g.N.Ord.cmp w other) c.self.view_is
