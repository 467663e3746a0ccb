use Rattle.link_lists.proofs.Pools.{written, kept}
use Rattle.link_lists.proofs.chain.set_link_at.Goals as goal

pub returns-clause-links : goal.returns-clause-links
returns-clause-links g c =
    written g.T.Linked.link_of c.args.pool.now c.args.at c.get_mut-item.result.now c.get_mut-item.ensures.value
    c.set_link.new.self c.args.to c.set_link.ensures.link

pub returns-clause-rests : goal.returns-clause-rests
returns-clause-rests g c =
    kept g.T.Linked.rest c.args.pool.now c.args.at c.get_mut-item.result.now c.get_mut-item.ensures.value
    c.set_link.new.self c.set_link.ensures.rest
