use Rattle.std.proofs.Common.{sym, rules}
use Rattle.dep_core.proofs.Waiters.{parted_told, parted_waits}
use Rattle.dep_core.proofs.giving.wait_one.Goals as goal

pub returns-in_ok-push-in-Some : goal.returns-in_ok-push-in-Some
returns-in_ok-push-in-Some g c =
    parted_told g.N.Ord.cmp c.args.places.now c.args.place c.args.awaited c.args.need.node c.args.need.rule
    c.in-Some.also.now c.args.told.now.items c.push.new.self.items c.args.waiting.now (sym c.in-Some.ensures.value)
    (search rules)

pub returns-in_ok-add-in-None : goal.returns-in_ok-add-in-None
returns-in_ok-add-in-None g c =
    parted_waits g.N.Ord.cmp c.args.places.now c.args.place c.requires c.args.awaited c.args.need.node c.args.need.rule
    c.args.told.now.items c.args.waiting.now c.add.new.self (sym c.in-None.ensures.value)
    c.in_ok-add-in-None.ensures.here c.in_ok-add-in-None.ensures.there
