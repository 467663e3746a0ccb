use Rattle.std.proofs.Common.{length, map, Some, None, ap, ◌∙◌, arith, length-set}
use Rattle.std.proofs.lemmas.List.{length-map}
use Rattle.link_lists.specs.Links.{between, with_after}
use Rattle.link_lists.proofs.Steps.{some_within, last_within, pushed_so}
use Rattle.link_lists.proofs.chain.Chain.push_back.Goals as goal

pub join_after-requires : goal.join_after-requires
join_after-requires g c =
    let link_of = g.T.Linked.link_of in let links = map link_of c.args.pool.now in
    some_within c.args.self.now.last (length c.set_link_at.new.pool) (λ z e.
    omega (
      arith,
      last_within c.args.self.now links z c.requires.sound e,
      ap length c.set_link_at.ensures.links,
      length-set links c.args.at (between c.args.self.now.last None),
      length-map c.set_link_at.new.pool link_of,
    ))

pub returns-clause-places : goal.returns-clause-places
returns-clause-places g c =
    let link_of = g.T.Linked.link_of in let links = map link_of c.args.pool.now in
    (pushed_so c.args.self.now links c.args.at (omega (arith, c.requires.free.0, length-map c.args.pool.now link_of))
    c.requires.free.1 c.requires.sound c.or-self.result c.or-self.ensures (map link_of c.join_after.new.pool)
    (c.join_after.ensures.links ∙ ap (λ l. with_after l c.args.self.now.last (Some c.args.at))
    c.set_link_at.ensures.links)).order

pub returns-clause-sound : goal.returns-clause-sound
returns-clause-sound g c =
    let link_of = g.T.Linked.link_of in let links = map link_of c.args.pool.now in
    (pushed_so c.args.self.now links c.args.at (omega (arith, c.requires.free.0, length-map c.args.pool.now link_of))
    c.requires.free.1 c.requires.sound c.or-self.result c.or-self.ensures (map link_of c.join_after.new.pool)
    (c.join_after.ensures.links ∙ ap (λ l. with_after l c.args.self.now.last (Some c.args.at))
    c.set_link_at.ensures.links)).agrees

pub returns-clause-links : goal.returns-clause-links
returns-clause-links g c =
    let link_of = g.T.Linked.link_of in let links = map link_of c.args.pool.now in
    (pushed_so c.args.self.now links c.args.at (omega (arith, c.requires.free.0, length-map c.args.pool.now link_of))
    c.requires.free.1 c.requires.sound c.or-self.result c.or-self.ensures (map link_of c.join_after.new.pool)
    (c.join_after.ensures.links ∙ ap (λ l. with_after l c.args.self.now.last (Some c.args.at))
    c.set_link_at.ensures.links)).same

pub returns-clause-others : goal.returns-clause-others
returns-clause-others g c =
    let link_of = g.T.Linked.link_of in let links = map link_of c.args.pool.now in
    (pushed_so c.args.self.now links c.args.at (omega (arith, c.requires.free.0, length-map c.args.pool.now link_of))
    c.requires.free.1 c.requires.sound c.or-self.result c.or-self.ensures (map link_of c.join_after.new.pool)
    (c.join_after.ensures.links ∙ ap (λ l. with_after l c.args.self.now.last (Some c.args.at))
    c.set_link_at.ensures.links)).others
