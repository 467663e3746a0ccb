use Rattle.std.proofs.Common.{ℕ, List, Contains, subst}
use Rattle.std.proofs.lemmas.List.Elements.{All-contains}
use Rattle.dep_core.specs.Kept.{row_by}
use Rattle.dep_core.specs.Marks.{nodes_of}
use Rattle.dep_core.specs.declared.mark.Mark.{Mark}
use Rattle.dep_core.specs.UnderWay.{IsNamed, Joins, MeetAt}
use Rattle.dep_core.proofs.Lists.{get_contains}
use Rattle.dep_core.proofs.Meetings.{all_told}
use Rattle.dep_core.proofs.giving.give.Goals as goal

pub always-requires : goal.always-requires
always-requires g c =
    All-contains (g.R.Rules.is_own c.args.rules.now) (nodes_of c.args.nodes.now.marks) c.node-node.result.now
    c.requires.own
    (get_contains (nodes_of c.args.nodes.now.marks) c.args.place c.node-node.result.now c.node-node.ensures)

pub awaiting-requires : goal.awaiting-requires
awaiting-requires g c =
    All-contains (g.R.Rules.is_own c.args.rules.now) (nodes_of c.args.nodes.now.marks) c.node-node.result.now
    c.requires.own
    (get_contains (nodes_of c.args.nodes.now.marks) c.args.place c.node-node.result.now c.node-node.ensures)

pub returns : goal.returns
returns g c =
    let rules = c.args.rules.now in
    let ns : List g.row.R-Node.Denot = nodes_of c.args.nodes.now.marks in
    let names : Mark g.row.R-Node.Denot → Type 0 = IsNamed (g.R.Rules.is_root rules)
    (row_by (g.R.Rules.gives rules) (g.R.Rules.awaits rules) (g.R.Rules.meets_in rules)) ns in
    all_told (g.R.Rules.is_root rules) (g.R.Rules.gives rules) (g.R.Rules.awaits rules) (g.R.Rules.meets_in rules)
    (g.R.Rules.can_seek rules) (g.R.Rules.can_be_sought rules) g.R.Node.Ord.cmp c.args.places.now g.met.R.Rules.one_node
    (nodes_of c.args.nodes.now.marks) c.requires.found c.requires.missing c.args.place c.node-node.result.now
    c.node-node.ensures c.in_ok-rows.rows c.in_ok-needs.needs c.new-told.result.items c.tell_needs.new.told.items
    c.wait_all.new.told.items c.tell.new.told.items c.join.new.told.items c.join-2.new.told.items
    c.args.pending.now.waiting c.wait_all.new.waiting c.tell.new.self
    c.args.pending.now.seeking.items c.join.new.those.items c.args.pending.now.sought.items
    c.join-2.new.those.items c.requires.waiters c.new-told.ensures.items c.in_ok-needs.ensures
    c.in_ok-tell_needs.ensures c.in_ok-rows.ensures c.in_ok-wait_all.ensures
    c.in_ok-tell.ensures.told c.in_ok-tell.ensures.here c.in_ok-tell.ensures.there
    (subst (λ l. Joins names (g.R.Rules.can_seek rules)
    (λ (n : g.row.R-Node.Denot). (q : ℕ) × Contains l q × MeetAt (g.R.Rules.meets_in rules) ns c.args.place q n) ns
    c.args.place c.tell.new.told.items c.join.new.told.items c.args.pending.now.seeking.items
    c.join.new.those.items) c.as_slice.ensures.value c.in_ok-join.ensures)
    (subst (λ l. Joins names (g.R.Rules.can_be_sought rules)
    (λ (n : g.row.R-Node.Denot). (p : ℕ) × Contains l p × MeetAt (g.R.Rules.meets_in rules) ns p c.args.place n) ns
    c.args.place c.join.new.told.items c.join-2.new.told.items c.args.pending.now.sought.items
    c.join-2.new.those.items) c.as_slice-2.ensures.value c.in_ok-join-2.ensures)
