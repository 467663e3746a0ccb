use Rattle.std.proofs.Common.{length, map, set, sym, ap, ◌∙◌, arith}
use Rattle.std.proofs.lemmas.List.{length-map}
use Rattle.link_lists.specs.Links.{free, with_before}
use Rattle.link_lists.proofs.Relinking.{after_long, before_long}
use Rattle.link_lists.proofs.Steps.{some_within, stands, unlinked_so}
use Rattle.link_lists.proofs.chain.Chain.unlink.Goals as goal

pub link_at-link-requires : goal.link_at-link-requires
link_at-link-requires g c =
    let link_of = g.T.Linked.link_of in let links = map link_of c.args.pool.now in
    omega (
      arith,
      (stands c.args.self.now links c.args.at c.requires.sound c.requires.within).within,
      length-map c.args.pool.now link_of,
    )

pub join_after-requires : goal.join_after-requires
join_after-requires g c =
    let link_of = g.T.Linked.link_of in let links = map link_of c.args.pool.now in
    let there = stands c.args.self.now links c.args.at c.requires.sound c.requires.within in
    some_within c.link_at-link.result.before (length c.args.pool.now) (λ z e.
    omega (
      arith,
      there.before z (ap (λ l. l.before) (sym c.link_at-link.ensures) ∙ e),
      length-map c.args.pool.now link_of,
    ))

pub join_before-requires : goal.join_before-requires
join_before-requires g c =
    let link_of = g.T.Linked.link_of in let links = map link_of c.args.pool.now in
    let link = c.link_at-link.result in
    let there = stands c.args.self.now links c.args.at c.requires.sound c.requires.within in
    some_within link.after (length c.join_after.new.pool) (λ z e.
    omega (
      arith,
      there.after z (ap (λ l. l.after) (sym c.link_at-link.ensures) ∙ e),
      ap length c.join_after.ensures.links,
      after_long links link.before link.after,
      length-map c.join_after.new.pool link_of,
    ))

pub set_link_at-requires : goal.set_link_at-requires
set_link_at-requires g c =
    let link_of = g.T.Linked.link_of in let links = map link_of c.args.pool.now in
    let link = c.link_at-link.result in
    let there = stands c.args.self.now links c.args.at c.requires.sound c.requires.within in
    omega (
      arith,
      there.within,
      ap length c.join_after.ensures.links,
      ap length c.join_before.ensures.links,
      after_long links link.before link.after,
      before_long (map link_of c.join_after.new.pool) link.before link.after,
      length-map c.join_before.new.pool link_of,
    )

pub returns-clause-places : goal.returns-clause-places
returns-clause-places g c =
    let link_of = g.T.Linked.link_of in let links = map link_of c.args.pool.now in
    let link = c.link_at-link.result in
    (unlinked_so c.args.self.now links c.args.at c.requires.sound c.requires.within link c.link_at-link.ensures
    c.end_of-self.result c.end_of-self-2.result c.end_of-self.ensures c.end_of-self-2.ensures (map link_of
    c.set_link_at.new.pool)
    (c.set_link_at.ensures.links ∙ ap (λ to. set (map link_of c.join_before.new.pool) c.args.at to) c.free.ensures
    ∙ ap (λ ls. set ls c.args.at free) (c.join_before.ensures.links
    ∙ ap (λ ls. with_before ls link.before link.after) c.join_after.ensures.links))).0.order

pub returns-clause-sound : goal.returns-clause-sound
returns-clause-sound g c =
    let link_of = g.T.Linked.link_of in let links = map link_of c.args.pool.now in
    let link = c.link_at-link.result in
    (unlinked_so c.args.self.now links c.args.at c.requires.sound c.requires.within link c.link_at-link.ensures
    c.end_of-self.result c.end_of-self-2.result c.end_of-self.ensures c.end_of-self-2.ensures (map link_of
    c.set_link_at.new.pool)
    (c.set_link_at.ensures.links ∙ ap (λ to. set (map link_of c.join_before.new.pool) c.args.at to) c.free.ensures
    ∙ ap (λ ls. set ls c.args.at free) (c.join_before.ensures.links
    ∙ ap (λ ls. with_before ls link.before link.after) c.join_after.ensures.links))).0.agrees

pub returns-clause-links : goal.returns-clause-links
returns-clause-links g c =
    let link_of = g.T.Linked.link_of in let links = map link_of c.args.pool.now in
    let link = c.link_at-link.result in
    (unlinked_so c.args.self.now links c.args.at c.requires.sound c.requires.within link c.link_at-link.ensures
    c.end_of-self.result c.end_of-self-2.result c.end_of-self.ensures c.end_of-self-2.ensures (map link_of
    c.set_link_at.new.pool)
    (c.set_link_at.ensures.links ∙ ap (λ to. set (map link_of c.join_before.new.pool) c.args.at to) c.free.ensures
    ∙ ap (λ ls. set ls c.args.at free) (c.join_before.ensures.links
    ∙ ap (λ ls. with_before ls link.before link.after) c.join_after.ensures.links))).0.same

pub returns-clause-others : goal.returns-clause-others
returns-clause-others g c =
    let link_of = g.T.Linked.link_of in let links = map link_of c.args.pool.now in
    let link = c.link_at-link.result in
    (unlinked_so c.args.self.now links c.args.at c.requires.sound c.requires.within link c.link_at-link.ensures
    c.end_of-self.result c.end_of-self-2.result c.end_of-self.ensures c.end_of-self-2.ensures (map link_of
    c.set_link_at.new.pool)
    (c.set_link_at.ensures.links ∙ ap (λ to. set (map link_of c.join_before.new.pool) c.args.at to) c.free.ensures
    ∙ ap (λ ls. set ls c.args.at free) (c.join_before.ensures.links
    ∙ ap (λ ls. with_before ls link.before link.after) c.join_after.ensures.links))).0.others
