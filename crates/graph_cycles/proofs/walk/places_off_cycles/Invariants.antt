use Rattle.graph_cycles.specs.Marks.{AreOff}
use Rattle.graph_cycles.proofs.walk.places_off_cycles.Given as goal

abbrev pub invariant-loop-step : goal.invariant-loop-step
invariant-loop-step l = AreOff l.graph l.left.items
