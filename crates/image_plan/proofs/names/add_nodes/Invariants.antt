use Rattle.std.proofs.Common.{◌≡◌, ◌++◌, drop, map}
use Rattle.num_core.specs.declared.fix.FixKind.TheVariants.{Code}
use Rattle.image_plan.specs.Places.{named}
use Rattle.image_plan.proofs.names.add_nodes.Given as goal

abbrev pub invariant-loop-node : goal.invariant-loop-node
invariant-loop-node l = l.initial.names ++ map (named Code l.at) l.nodes ≡ l.names ++ map (named Code l.at) (drop l.node-index l.nodes)
