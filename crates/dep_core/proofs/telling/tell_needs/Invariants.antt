use Rattle.std.proofs.Common.{Some, length}
use Rattle.dep_core.specs.declared.rules.Need.{Need}
use Rattle.dep_core.specs.UnderWay.{mark_of}
use Rattle.dep_core.proofs.ToldMarks.{IsTelling}
use Rattle.dep_core.proofs.telling.tell_needs.Given as goal

abbrev pub invariant-loop-need : goal.invariant-loop-need
invariant-loop-need g l =
    IsTelling (λ (need : Need g.row.N.Denot). mark_of need.node need.rule (Some l.from) l.also) l.fn.needs l.left.items
    l.fn.told.items l.told.items

abbrev pub decreases-loop-need : goal.decreases-loop-need
decreases-loop-need g l = length l.left.items
