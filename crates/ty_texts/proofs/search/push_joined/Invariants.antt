use Rattle.std.proofs.Common.{◌≡◌, ◌++◌, ◌≤◌, length, drop}
use Rattle.ty_names.specs.Modules.{tables_at}
use Rattle.ty_load.specs.Search.{joined_names}
use Rattle.ty_texts.proofs.search.push_joined.Given as goal

-- the text so far is that of the types from one on to the outermost
abbrev pub invariant-loop-left : goal.invariant-loop-left
invariant-loop-left l = record {
  within : l.left ≤ length l.around;
  so_far : l.text ≡ l.initial.text ++ joined_names (tables_at l.names l.module) (drop l.left l.around);
}

abbrev pub decreases-loop-left : goal.decreases-loop-left
decreases-loop-left l = l.left
