use Rattle.std.proofs.Common.{ℕ, arith}
use Rattle.dep_core.specs.Kept.{row_by}
use Rattle.dep_core.specs.Marks.{nodes_of}
use Rattle.dep_core.specs.Sides.{MeetOn}
use Rattle.dep_core.specs.UnderWay.{IsNamed}
use Rattle.dep_core.proofs.Meetings.{meeting_none, meeting_more, meeting_all}
use Rattle.dep_core.proofs.giving.meet_all.Goals as goal

pub loop-other-init : goal.loop-other-init
loop-other-init g c =
    let rules = c.args.rules.now in
    meeting_none (IsNamed (g.R.Rules.is_root rules)
    (row_by (g.R.Rules.gives rules) (g.R.Rules.awaits rules) (g.R.Rules.meets_in rules)) (nodes_of
    c.args.nodes.now.marks))
    (λ (p : ℕ) (n : g.row.R-Node.Denot). MeetOn c.args.side (g.R.Rules.meets_in rules) (nodes_of
    c.args.nodes.now.marks) c.args.place p n)
    c.args.others.now c.args.told.now.items

pub loop-other-preserved : goal.loop-other-preserved
loop-other-preserved g c =
    let rules = c.args.rules.now in
    meeting_more (IsNamed (g.R.Rules.is_root rules)
    (row_by (g.R.Rules.gives rules) (g.R.Rules.awaits rules) (g.R.Rules.meets_in rules)) (nodes_of
    c.args.nodes.now.marks))
    (λ (p : ℕ) (n : g.row.R-Node.Denot). MeetOn c.args.side (g.R.Rules.meets_in rules) (nodes_of
    c.args.nodes.now.marks) c.args.place p n)
    c.args.others.now c.loop-other.other-index c.args.told.now.items c.loop-other.told.items c.meet_on.new.told.items
    c.loop-other.invariant c.in_ok-meet_on.ensures

pub returns : goal.returns
returns g c =
    let rules = c.args.rules.now in
    meeting_all (IsNamed (g.R.Rules.is_root rules)
    (row_by (g.R.Rules.gives rules) (g.R.Rules.awaits rules) (g.R.Rules.meets_in rules)) (nodes_of
    c.args.nodes.now.marks))
    (λ (p : ℕ) (n : g.row.R-Node.Denot). MeetOn c.args.side (g.R.Rules.meets_in rules) (nodes_of
    c.args.nodes.now.marks) c.args.place p n)
    c.args.others.now c.loop-other.other-index c.args.told.now.items c.loop-other.told.items (omega arith)
    c.loop-other.invariant
