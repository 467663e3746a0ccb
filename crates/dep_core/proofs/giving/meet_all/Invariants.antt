use Rattle.dep_core.specs.Kept.{row_by}
use Rattle.dep_core.specs.Marks.{nodes_of}
use Rattle.dep_core.specs.Sides.{MeetOn}
use Rattle.dep_core.specs.UnderWay.{IsNamed}
use Rattle.dep_core.proofs.Meetings.{IsMeeting}
use Rattle.dep_core.proofs.giving.meet_all.Given as goal

abbrev pub invariant-loop-other : goal.invariant-loop-other
invariant-loop-other g l =
    IsMeeting (IsNamed (g.R.Rules.is_root l.rules)
    (row_by (g.R.Rules.gives l.rules) (g.R.Rules.awaits l.rules) (g.R.Rules.meets_in l.rules)) (nodes_of l.nodes.marks))
    (λ p n. MeetOn l.side (g.R.Rules.meets_in l.rules) (nodes_of l.nodes.marks) l.place p n) l.others l.other-index
    l.fn.told.items l.told.items
