use Rattle.std.proofs.Common.{◌≡◌, drop}
use Rattle.std.specs.List.{list_all}
use Rattle.graph_cycles.specs.Marks.{is_done}
use Rattle.graph_cycles.proofs.marks.are_done.Given as goal

-- what is left says the same as all
abbrev pub invariant-loop-place : goal.invariant-loop-place
invariant-loop-place l =
    list_all (is_done l.marks) (drop l.place-index l.places) ≡ list_all (is_done l.marks) l.places
