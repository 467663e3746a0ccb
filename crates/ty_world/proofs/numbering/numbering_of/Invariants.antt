use Rattle.std.proofs.Common.{◌≡◌, ◌<◌, ℕ, length, slice_index}
use Rattle.std.specs.List.{flat_map, range_with_len}
use Rattle.ty_load.specs.Cycles.{ids_of}
use Rattle.ty_world.specs.Numbering.{start_of}
use Rattle.ty_world.proofs.numbering.numbering_of.Given as goal

abbrev pub invariant-loop-number : goal.invariant-loop-number
invariant-loop-number l = record {
  ids : l.ids.items ≡ flat_map (ids_of l.names) (range_with_len 0 l.number);
  modules : length l.starts.items ≡ l.number;
  starts : (k : ℕ) → k < l.number → slice_index l.starts.items k ≡ start_of l.names k;
}
