use Rattle.std.proofs.lemmas.Result.{on_ok_weaker}
use Rattle.std.proofs.lemmas.List.Elements.{All-contains}
use Rattle.dep_core.specs.Marks.{nodes_of}
use Rattle.dep_core.proofs.Lists.{get_contains}
use Rattle.dep_core.proofs.Meetings.{met}
use Rattle.dep_core.proofs.giving.meet.Goals as goal

pub meets-requires-clause-a : goal.meets-requires-clause-a
meets-requires-clause-a g c =
    All-contains (g.R.Rules.is_own c.args.rules.now) (nodes_of c.args.nodes.now.marks) c.node-a.result.now
    c.requires.own
    (get_contains (nodes_of c.args.nodes.now.marks) c.args.from c.node-a.result.now c.node-a.ensures)

pub meets-requires-clause-b : goal.meets-requires-clause-b
meets-requires-clause-b g c =
    All-contains (g.R.Rules.is_own c.args.rules.now) (nodes_of c.args.nodes.now.marks) c.node-b.result.now
    c.requires.own
    (get_contains (nodes_of c.args.nodes.now.marks) c.args.also c.node-b.result.now c.node-b.ensures)

pub returns : goal.returns
returns g c =
    let rules = c.args.rules.now in
    on_ok_weaker c.tell_needs.result
    (met (g.R.Rules.is_root rules) (g.R.Rules.gives rules) (g.R.Rules.awaits rules) (g.R.Rules.meets_in rules)
    (nodes_of c.args.nodes.now.marks) c.args.from c.args.also c.node-a.result.now c.node-b.result.now
    c.in_ok-needs.needs c.args.told.now.items c.tell_needs.new.told.items c.node-a.ensures c.node-b.ensures
    c.in_ok-needs.ensures) c.tell_needs.ensures
