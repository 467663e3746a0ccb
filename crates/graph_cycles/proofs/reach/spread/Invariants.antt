use Rattle.std.proofs.Common.{take}
use Rattle.graph_cycles.specs.Marks.{Spread}
use Rattle.graph_cycles.proofs.reach.spread.Given as goal

abbrev pub invariant-loop-place : goal.invariant-loop-place
invariant-loop-place l =
    Spread (take l.place-index l.places) l.initial.marks l.marks l.initial.waiting.items l.waiting.items
