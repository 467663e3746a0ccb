use Rattle.std.proofs.Common.{◌∷◌, map, sym, ap, ◌∙◌}
use Rattle.link_lists.proofs.Steps.{popped}
use Rattle.link_lists.proofs.chain.Chain.pop_front.Goals as goal

pub returns-clause-places : goal.returns-clause-places
returns-clause-places g c =
    popped c.args.self.now (map g.T.Linked.link_of c.args.pool.now) c.in_ok-at.at c.requires c.in_ok-at.was
    ∙ ap (λ l. c.in_ok-at.at ∷ l) (sym c.unlink.ensures.places)
