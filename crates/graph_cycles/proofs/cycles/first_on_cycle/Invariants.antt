use Rattle.std.proofs.Common.{◌≡◌, ◌-◌, find, length}
use Rattle.std.specs.List.{range_with_len}
use Rattle.graph_cycles.specs.Ways.{first_cyclic, is_on_cycle}
use Rattle.graph_cycles.proofs.cycles.first_on_cycle.Given as goal

-- what is left says the same as all
abbrev pub invariant-loop-place : goal.invariant-loop-place
invariant-loop-place l =
    first_cyclic l.graph ≡ find (is_on_cycle l.graph) (range_with_len l.place (length l.graph - l.place))
