use Rattle.ty_names.specs.Modules.{tables_at}
use Rattle.ty_texts.proofs.Walked.{IsWalked}
use Rattle.ty_texts.proofs.around.types_around.Given as goal

abbrev pub invariant-loop-left : goal.invariant-loop-left
invariant-loop-left l = IsWalked (tables_at l.names l.id.module) l.id.row l.left l.around.keys l.row

abbrev pub decreases-loop-left : goal.decreases-loop-left
decreases-loop-left l = l.left
