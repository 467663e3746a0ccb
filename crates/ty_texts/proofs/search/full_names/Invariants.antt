use Rattle.std.proofs.Common.{◌≤◌, length}
use Rattle.ty_texts.proofs.Full.{TellFrom}
use Rattle.ty_texts.proofs.search.full_names.Given as goal

abbrev pub invariant-loop-left : goal.invariant-loop-left
invariant-loop-left l = record {
  within : l.left ≤ length l.names;
  told : TellFrom l.names l.left l.found.entries;
}

abbrev pub decreases-loop-left : goal.decreases-loop-left
decreases-loop-left l = l.left
