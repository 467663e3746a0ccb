use Rattle.std.proofs.Common.{◌≡◌, ◌+◌, ◌<◌, ◌≤◌, ℕ, length, drop, slice_index}
use Rattle.ty_names.specs.Definitions.{enclosing_in}
use Rattle.ty_names.proofs.nesting.note_all.Given as goal

-- what the rows behind say of each type
abbrev pub invariant-loop-left : goal.invariant-loop-left
invariant-loop-left l = record {
  within : l.left ≤ length l.nested;
  size : length l.outer ≡ length l.initial.outer;
  known : (k : ℕ) → k < length l.initial.outer → slice_index l.outer k ≡ enclosing_in (drop l.left l.nested) (k + 1);
}

abbrev pub decreases-loop-left : goal.decreases-loop-left
decreases-loop-left l = l.left
