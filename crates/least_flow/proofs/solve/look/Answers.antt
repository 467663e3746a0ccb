use Rattle.std.proofs.Common.{◌≡◌, ◌∙◌, List, Option, Some, sym, subst, arith}
use Rattle.std.proofs.lemmas.Result.{on_ok_weaker}
use Rattle.least_flow.specs.Solution.{row}
use Rattle.least_flow.specs.Telling.{IfKnown, known_places}
use Rattle.least_flow.proofs.Rows.{known-bound, row-is, row-past}
use Rattle.least_flow.proofs.Looking.{idle, looked}
use Rattle.least_flow.proofs.solve.look.Goals as goal

pub returns-then-place-table-clause-under_way : goal.returns-then-place-table-clause-under_way
returns-then-place-table-clause-under_way g c =
    let flow = c.args.flow.now in
    idle g.F.Flow.is_below (g.F.Flow.starts flow) (g.F.Flow.passes flow) (g.F.Flow.is_within flow) c.args.place
    c.args.table.now c.args.waiting.now.items c.requires.under_way
    (row-past c.args.table.now c.args.place c.if-place-table.true)

pub returns-in_default-clause-under_way : goal.returns-in_default-clause-under_way
returns-in_default-clause-under_way g c =
    let flow = c.args.flow.now in
    let table : List (Option g.row.F-Fact.Denot) = c.args.table.now in
    idle g.F.Flow.is_below (g.F.Flow.starts flow) (g.F.Flow.passes flow) (g.F.Flow.is_within flow) c.args.place table
    c.args.waiting.now.items c.requires.under_way
    (sym (row-is table c.args.place c.index-table-place.result c.if-place-table.false) ∙ c.in_default.is)

pub pass-requires-clause-within : goal.pass-requires-clause-within
pass-requires-clause-within g c =
    let flow = c.args.flow.now in
    let table : List (Option g.row.F-Fact.Denot) = c.args.table.now in
    let known : g.row.F-Fact.Denot = c.in-Some.known in
    let is : row table c.args.place ≡ Some known = sym
    (row-is table c.args.place c.index-table-place.result c.if-place-table.false) ∙ c.in-Some.is in
    g.met.F.Flow.widens flow (known_places table) (g.F.Flow.places flow) known
    (omega (arith, known-bound table, c.requires.size))
    (subst (IfKnown (g.F.Flow.is_within flow (known_places table))) is (c.requires.under_way.within c.args.place))

pub tell-requires-clause-facts : goal.tell-requires-clause-facts
tell-requires-clause-facts g c =
    let flow = c.args.flow.now in
    let table : List (Option g.row.F-Fact.Denot) = c.args.table.now in
    let known : g.row.F-Fact.Denot = c.in-Some.known in
    let is : row table c.args.place ≡ Some known = sym
    (row-is table c.args.place c.index-table-place.result c.if-place-table.false) ∙ c.in-Some.is in
    c.in_ok-facts.ensures.within (known_places table)
    (subst (IfKnown (g.F.Flow.is_within flow (known_places table))) is (c.requires.under_way.within c.args.place))

pub returns-clause-under_way : goal.returns-clause-under_way
returns-clause-under_way g c =
    let flow = c.args.flow.now in
    let table : List (Option g.row.F-Fact.Denot) = c.args.table.now in
    let known : g.row.F-Fact.Denot = c.in-Some.known in
    let is : row table c.args.place ≡ Some known = sym
    (row-is table c.args.place c.index-table-place.result c.if-place-table.false) ∙ c.in-Some.is in
    on_ok_weaker c.tell.result
    (looked g.F.Flow.is_below (g.F.Flow.starts flow) (g.F.Flow.passes flow) (g.F.Flow.is_within flow)
    (g.F.Flow.rank flow) g.met.F.Flow.transitive (g.met.F.Flow.monotone flow) c.args.place known
    c.in_ok-facts.facts.items table c.tell.new.table c.args.waiting.now.items c.tell.new.waiting.items
    c.requires.under_way is c.in_ok-facts.ensures.told
    (c.in_ok-facts.ensures.within (known_places table)
    (subst (IfKnown (g.F.Flow.is_within flow (known_places table))) is (c.requires.under_way.within c.args.place))))
    c.tell.ensures
