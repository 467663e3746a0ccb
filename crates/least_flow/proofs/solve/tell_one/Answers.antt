use Rattle.std.proofs.Common.{◌≡◌, ◌+◌, ◌≤◌, List, true, false, refl, sym, subst, Option, arith, rules}
use Rattle.least_flow.specs.Solution.{row}
use Rattle.least_flow.specs.Telling.{IfKnown, RowRaised, known_places}
use Rattle.least_flow.proofs.Rows.{if_known, known-bound, row-is}
use Rattle.least_flow.proofs.Raising.{told-none, told-one, told-outside}
use Rattle.least_flow.proofs.solve.tell_one.Goals as goal

pub raise-requires-clause-within : goal.raise-requires-clause-within
raise-requires-clause-within g c =
    let flow = c.args.flow.now in
    let table : List (Option g.row.F-Fact.Denot) = c.args.table.now in
    let within = g.F.Flow.is_within flow in
    let near : known_places table ≤ g.F.Flow.places flow = omega (arith, known-bound table, c.requires.size) in
    subst (IfKnown (within (g.F.Flow.places flow)))
    (sym (row-is table c.args.place c.index-table-place.result c.if-place-table.false))
    (if_known (within (known_places table)) (within (g.F.Flow.places flow))
    (λ a. g.met.F.Flow.widens flow (known_places table) (g.F.Flow.places flow) a near) (row table c.args.place)
    (c.requires.within c.args.place))

pub raise-requires-clause-fact : goal.raise-requires-clause-fact
raise-requires-clause-fact g c =
    let flow = c.args.flow.now in
    g.met.F.Flow.widens flow (known_places c.args.table.now + 1) (g.F.Flow.places flow + 1) c.args.fact
    (omega (arith, known-bound c.args.table.now, c.requires.size)) c.requires.fact

pub returns-in_ok-push : goal.returns-in_ok-push
returns-in_ok-push g c =
    let flow = c.args.flow.now in
    let table : List (Option g.row.F-Fact.Denot) = c.args.table.now in
    let rose : c.in_ok-raise.field-0 ≡ true = c.if-branch.true in
    told-one g.F.Flow.is_below (g.F.Flow.is_within flow) (g.F.Flow.rank flow) g.met.F.Flow.reflexive
    (g.met.F.Flow.widens flow) c.args.place c.args.fact table c.raise.new.known true c.args.waiting.now.items
    c.push.new.self.items c.if-place-table.false
    (subst (λ r. RowRaised g.F.Flow.is_below (g.F.Flow.is_within flow) (g.F.Flow.rank flow) c.args.fact
    (row table c.args.place) c.raise.new.known r) rose
    (subst (λ x. RowRaised g.F.Flow.is_below (g.F.Flow.is_within flow) (g.F.Flow.rank flow) c.args.fact x
    c.raise.new.known c.in_ok-raise.field-0)
    (row-is table c.args.place c.index-table-place.result c.if-place-table.false) c.in_ok-raise.ensures))
    (search rules)

pub returns-else-branch : goal.returns-else-branch
returns-else-branch g c =
    let flow = c.args.flow.now in
    let table : List (Option g.row.F-Fact.Denot) = c.args.table.now in
    let stayed : c.in_ok-raise.field-0 ≡ false = c.if-branch.false in
    told-one g.F.Flow.is_below (g.F.Flow.is_within flow) (g.F.Flow.rank flow) g.met.F.Flow.reflexive
    (g.met.F.Flow.widens flow) c.args.place c.args.fact table c.raise.new.known false c.args.waiting.now.items
    c.args.waiting.now.items c.if-place-table.false
    (subst (λ r. RowRaised g.F.Flow.is_below (g.F.Flow.is_within flow) (g.F.Flow.rank flow) c.args.fact
    (row table c.args.place) c.raise.new.known r) stayed
    (subst (λ x. RowRaised g.F.Flow.is_below (g.F.Flow.is_within flow) (g.F.Flow.rank flow) c.args.fact x
    c.raise.new.known c.in_ok-raise.field-0)
    (row-is table c.args.place c.index-table-place.result c.if-place-table.false) c.in_ok-raise.ensures))
    refl

pub returns-then-place-table : goal.returns-then-place-table
returns-then-place-table g c =
    let flow = c.args.flow.now in
    told-none g.F.Flow.is_below (g.F.Flow.is_within flow) (g.F.Flow.rank flow) g.met.F.Flow.reflexive _ c.args.table.now
    c.args.waiting.now.items
    (told-outside g.F.Flow.is_below c.args.place c.args.fact c.args.table.now c.if-place-table.true)
    (g.met.F.Flow.widens flow)
