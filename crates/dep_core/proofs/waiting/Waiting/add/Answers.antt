use Rattle.std.proofs.Common.{◌∷◌, [], ◌++◌, Some, None, refl, ap, ◌∙◌}
use Rattle.std.specs.BTreeMap.{get}
use Rattle.dep_core.specs.UnderWay.{waiters_of}
use Rattle.dep_core.proofs.Awaiting.{ComesTo}
use Rattle.dep_core.proofs.Finding.{absent, chain_sound, chained_after, comes_here, comes_now, comes_stay}
use Rattle.dep_core.proofs.Finding.{none_now, others_after}
use Rattle.dep_core.proofs.waiting.Waiting.add.Goals as goal

pub add_record-requires : goal.add_record-requires
add_record-requires g c =
    let records = c.self.inside.records in let chains = c.self.inside.chains in
    chain_sound g.N.Ord.cmp g.met.N.Ord.total records records chains c.args.node c.self.invariant
    (get g.N.Ord.cmp chains c.args.node) refl c.chain_of-chain.result c.chain_of-chain.ensures

pub invariant_of-self-in_err-insert : goal.invariant_of-self-in_err-insert
invariant_of-self-in_err-insert g c =
    let records = c.self.inside.records in let chains = c.self.inside.chains in
    let new = c.add_record.new.records in let longer = c.in_ok-chain.chain in
    let came = c.in_ok-chain.ensures in
    let comes : ComesTo records new c.chain_of-chain.result longer c.args.waiter = record {
      places_are = came.places;
      waiters = came.waiters;
      spares = came.spares;
    } in
    let stay = comes_stay g.N.Ord.cmp g.met.N.Ord.total records new chains c.args.node c.self.invariant
    c.chain_of-chain.result longer c.args.waiter c.chain_of-chain.ensures comes came.sound in
    let same = absent g.N.Ord.cmp g.met.N.Ord.total records new chains c.args.node c.self.invariant
    c.insert.new.self c.in_err-insert.ensures.err c.in_err-insert.ensures.absent in
    chained_after g.N.Ord.cmp g.met.N.Ord.total records new chains c.args.node c.self.invariant stay c.insert.new.self
    None same (none_now g.N.Ord.cmp g.met.N.Ord.total records new chains c.args.node c.self.invariant)

pub invariant_of-self-2 : goal.invariant_of-self-2
invariant_of-self-2 g c =
    let records = c.self.inside.records in let chains = c.self.inside.chains in
    let new = c.add_record.new.records in let longer = c.in_ok-chain.chain in
    let came = c.in_ok-chain.ensures in
    let comes : ComesTo records new c.chain_of-chain.result longer c.args.waiter = record {
      places_are = came.places;
      waiters = came.waiters;
      spares = came.spares;
    } in
    let stay = comes_stay g.N.Ord.cmp g.met.N.Ord.total records new chains c.args.node c.self.invariant
    c.chain_of-chain.result longer c.args.waiter c.chain_of-chain.ensures comes came.sound in
    let here = comes_now g.N.Ord.cmp g.met.N.Ord.total records new chains c.args.node c.self.invariant
    c.chain_of-chain.result longer c.args.waiter c.chain_of-chain.ensures comes came.sound in
    chained_after g.N.Ord.cmp g.met.N.Ord.total records new chains c.args.node c.self.invariant stay c.insert.new.self
    (Some longer) c.in_ok-insert.ensures.updates.0 here

pub returns-clause-here : goal.returns-clause-here
returns-clause-here g c =
    let records = c.self.inside.records in let chains = c.self.inside.chains in
    let new = c.add_record.new.records in let longer = c.in_ok-chain.chain in
    let came = c.in_ok-chain.ensures in
    let comes : ComesTo records new c.chain_of-chain.result longer c.args.waiter = record {
      places_are = came.places;
      waiters = came.waiters;
      spares = came.spares;
    } in
    let stay = comes_stay g.N.Ord.cmp g.met.N.Ord.total records new chains c.args.node c.self.invariant
    c.chain_of-chain.result longer c.args.waiter c.chain_of-chain.ensures comes came.sound in
    let told = comes_here g.N.Ord.cmp g.met.N.Ord.total records new chains c.args.node c.self.invariant
    c.chain_of-chain.result longer c.args.waiter c.chain_of-chain.ensures comes came.sound c.insert.new.self
    c.in_ok-insert.ensures.updates.1 in
    told ∙ ap (λ w. waiters_of g.N.Ord.cmp w c.args.node ++ c.args.waiter ∷ []) c.self.view_is

pub returns-clause-there : goal.returns-clause-there
returns-clause-there g c = λ other ne.
    let records = c.self.inside.records in let chains = c.self.inside.chains in
    let new = c.add_record.new.records in let longer = c.in_ok-chain.chain in
    let came = c.in_ok-chain.ensures in
    let comes : ComesTo records new c.chain_of-chain.result longer c.args.waiter = record {
      places_are = came.places;
      waiters = came.waiters;
      spares = came.spares;
    } in
    let stay = comes_stay g.N.Ord.cmp g.met.N.Ord.total records new chains c.args.node c.self.invariant
    c.chain_of-chain.result longer c.args.waiter c.chain_of-chain.ensures comes came.sound in
    let here = comes_now g.N.Ord.cmp g.met.N.Ord.total records new chains c.args.node c.self.invariant
    c.chain_of-chain.result longer c.args.waiter c.chain_of-chain.ensures comes came.sound in
    others_after g.N.Ord.cmp g.met.N.Ord.total records new chains c.args.node c.self.invariant stay c.insert.new.self
    (Some longer) c.in_ok-insert.ensures.updates.0 here other ne
    ∙ ap (λ w. waiters_of g.N.Ord.cmp w other) c.self.view_is
