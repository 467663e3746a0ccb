use Rattle.std.proofs.Common.{◌≡◌, ◌∷◌, [], ◌++◌, refl, ap, ◌∙◌, lit<}
use Rattle.dep_core.specs.declared.waiting.WaiterRecord.{WaiterRecord}
use Rattle.link_lists.specs.Links.{free}
use Rattle.dep_core.specs.Awaited.{waiting_links}
use Rattle.dep_core.proofs.Awaiting.{told_record, comes_to}
use Rattle.dep_core.proofs.Chained.{readied}
use Rattle.dep_core.proofs.waiting.add_record.Goals as goal

pub push_back-requires : goal.push_back-requires
push_back-requires g c =
    let records = c.args.records.now in
    let new : WaiterRecord g.row.N.Denot = told_record c.args.waiter in
    let is : c.push.new.self ≡ records ++ new ∷ [] =
    c.in-Ok-push.ensures.added ∙ ap (λ l. records ++ record new { waiting = l } ∷ []) c.free.ensures in
    let ready = readied (λ (r : WaiterRecord g.row.N.Denot). r.waiting) records c.push.new.self new refl
    (ap waiting_links is) c.args.chain c.in-Ok.place (c.in-Ok.ensures.1 ∙ c.len.ensures)
    (c.chains_in_a_growing_pool.ensures.sound 2 c.args.chain (waiting_links records) free c.requires) in
    (lit< tt, (ready.0, (ready.1, ready.2)))

pub returns-clause-places : goal.returns-clause-places
returns-clause-places g c =
    let records = c.args.records.now in
    let new : WaiterRecord g.row.N.Denot = told_record c.args.waiter in
    let is : c.push.new.self ≡ records ++ new ∷ [] =
    c.in-Ok-push.ensures.added ∙ ap (λ l. records ++ record new { waiting = l } ∷ []) c.free.ensures in
    let law = c.chains_in_a_growing_pool.ensures in
    (comes_to records c.push.new.self c.push_back.new.pool c.args.chain c.push_back.new.self c.args.waiter
    c.in-Ok.place (λ chain. law.sound 2 chain (waiting_links records) free)
    (λ chain. law.places 2 chain (waiting_links records) free) is (c.in-Ok.ensures.1 ∙ c.len.ensures) c.requires
    c.push_back.ensures.rests c.push_back.ensures.places c.push_back.ensures.others).places_are

pub returns-clause-waiters : goal.returns-clause-waiters
returns-clause-waiters g c =
    let records = c.args.records.now in
    let new : WaiterRecord g.row.N.Denot = told_record c.args.waiter in
    let is : c.push.new.self ≡ records ++ new ∷ [] =
    c.in-Ok-push.ensures.added ∙ ap (λ l. records ++ record new { waiting = l } ∷ []) c.free.ensures in
    let law = c.chains_in_a_growing_pool.ensures in
    (comes_to records c.push.new.self c.push_back.new.pool c.args.chain c.push_back.new.self c.args.waiter
    c.in-Ok.place (λ chain. law.sound 2 chain (waiting_links records) free)
    (λ chain. law.places 2 chain (waiting_links records) free) is (c.in-Ok.ensures.1 ∙ c.len.ensures) c.requires
    c.push_back.ensures.rests c.push_back.ensures.places c.push_back.ensures.others).waiters

pub returns-clause-spares : goal.returns-clause-spares
returns-clause-spares g c =
    let records = c.args.records.now in
    let new : WaiterRecord g.row.N.Denot = told_record c.args.waiter in
    let is : c.push.new.self ≡ records ++ new ∷ [] =
    c.in-Ok-push.ensures.added ∙ ap (λ l. records ++ record new { waiting = l } ∷ []) c.free.ensures in
    let law = c.chains_in_a_growing_pool.ensures in
    (comes_to records c.push.new.self c.push_back.new.pool c.args.chain c.push_back.new.self c.args.waiter
    c.in-Ok.place (λ chain. law.sound 2 chain (waiting_links records) free)
    (λ chain. law.places 2 chain (waiting_links records) free) is (c.in-Ok.ensures.1 ∙ c.len.ensures) c.requires
    c.push_back.ensures.rests c.push_back.ensures.places c.push_back.ensures.others).spares
