use Rattle.std.proofs.Common.{◌≡◌, ◌⊎◌, ◌+◌, ◌<◌, ◌≤◌, ℕ, length, slice_index}
use Rattle.ty_members.specs.Owners.{noted}
use Rattle.ty_members.proofs.owners.note_run.Given as goal

-- the rows of the run so far
abbrev pub invariant-loop-row : goal.invariant-loop-row
invariant-loop-row l = record {
  low : l.begin ≤ l.row;
  reached : (l.row ≡ l.begin) ⊎ (l.row ≤ l.end);
  size : length l.owners ≡ length l.initial.owners;
  known : (k : ℕ) → k < length l.initial.owners
      → slice_index l.owners k ≡ noted l.begin l.row l.owner (k + 1) (slice_index l.initial.owners k);
}
