use Rattle.std.proofs.Common.{◌≡◌, ◌+◌, ◌<◌, ℕ, length, take, slice_index, count_by}
use Rattle.ty_load.specs.Counting.{is_of}
use Rattle.ty_load.proofs.parameters.count_all.Given as goal

-- so far as many of each type
abbrev pub invariant-loop-parameter : goal.invariant-loop-parameter
invariant-loop-parameter l = record {
  size : length l.counts ≡ length l.initial.counts;
  known :
      (k : ℕ) → k < length l.initial.counts → slice_index l.counts k
      ≡ count_by (is_of (k + 1)) (take l.parameter-index l.parameters);
}
