use Rattle.std.proofs.Common.{◌∙◌, ℕ, Contains, sym}
use Rattle.std.proofs.lemmas.List.Elements.{All-contains}
use Rattle.dep_core.specs.Kept.{row_by}
use Rattle.dep_core.specs.Marks.{nodes_of}
use Rattle.dep_core.specs.Sides.{can_be_on, MeetOn}
use Rattle.dep_core.specs.UnderWay.{IsNamed}
use Rattle.dep_core.proofs.Lists.{get_contains}
use Rattle.dep_core.proofs.Meetings.{joined, not_joined}
use Rattle.dep_core.proofs.giving.join.Goals as goal

pub can_be_on-requires : goal.can_be_on-requires
can_be_on-requires g c =
    All-contains (g.R.Rules.is_own c.args.rules.now) (nodes_of c.args.nodes.now.marks) c.node.result.now c.requires.own
    (get_contains (nodes_of c.args.nodes.now.marks) c.args.place c.node.result.now c.node.ensures)

pub returns-then-not-can_be_on : goal.returns-then-not-can_be_on
returns-then-not-can_be_on g c =
    let rules = c.args.rules.now in
    not_joined (IsNamed (g.R.Rules.is_root rules)
    (row_by (g.R.Rules.gives rules) (g.R.Rules.awaits rules) (g.R.Rules.meets_in rules)) (nodes_of
    c.args.nodes.now.marks))
    (can_be_on c.args.side (g.R.Rules.can_seek rules) (g.R.Rules.can_be_sought rules))
    (λ (n : g.row.R-Node.Denot). (q : ℕ) × Contains c.args.others.now q × MeetOn c.args.side (g.R.Rules.meets_in rules)
    (nodes_of c.args.nodes.now.marks) c.args.place q n)
    (nodes_of c.args.nodes.now.marks) c.args.place c.args.told.now.items c.args.those.now.items c.node.result.now
    c.node.ensures (sym c.can_be_on.ensures ∙ c.if-not-can_be_on.true)

pub returns : goal.returns
returns g c =
    let rules = c.args.rules.now in
    joined (IsNamed (g.R.Rules.is_root rules)
    (row_by (g.R.Rules.gives rules) (g.R.Rules.awaits rules) (g.R.Rules.meets_in rules)) (nodes_of
    c.args.nodes.now.marks))
    (can_be_on c.args.side (g.R.Rules.can_seek rules) (g.R.Rules.can_be_sought rules))
    (λ (n : g.row.R-Node.Denot). (q : ℕ) × Contains c.args.others.now q × MeetOn c.args.side (g.R.Rules.meets_in rules)
    (nodes_of c.args.nodes.now.marks) c.args.place q n)
    (nodes_of c.args.nodes.now.marks) c.args.place c.args.told.now.items c.meet_all.new.told.items
    c.args.those.now.items
    c.push.new.self.items c.requires.place c.in_ok-meet_all.ensures c.in_ok-push.ensures.items
