use Rattle.ty_texts.proofs.Full.{TellNamesBehind}
use Rattle.ty_texts.proofs.search.note_names.Given as goal

abbrev pub invariant-loop-left : goal.invariant-loop-left
invariant-loop-left l = TellNamesBehind l.names l.module l.initial.found.entries l.left l.found.entries

abbrev pub decreases-loop-left : goal.decreases-loop-left
decreases-loop-left l = l.left
