use Rattle.std.proofs.Common.{◌≡◌, ◌+◌, ◌<◌, ◌≤◌, ℕ, length, slice_index}
use Rattle.ty_names.specs.Modules.{row_count}
use Rattle.ty_names.specs.Definitions.{type_count}
use Rattle.ty_members.proofs.Owning.{owner_behind}
use Rattle.ty_members.proofs.owners.note_all.Given as goal

-- what the types behind say of each row
abbrev pub invariant-loop-left : goal.invariant-loop-left
invariant-loop-left l = record {
  within : l.left ≤ type_count l.tables;
  size : length l.owners ≡ row_count l.tables l.target;
  known : (k : ℕ) → k < row_count l.tables l.target
      → slice_index l.owners k ≡ owner_behind l.tables l.column l.target (k + 1) l.left;
}

abbrev pub decreases-loop-left : goal.decreases-loop-left
decreases-loop-left l = l.left
