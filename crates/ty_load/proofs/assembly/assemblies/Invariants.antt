use Rattle.std.proofs.Common.{◌≤◌}
use Rattle.ty_names.specs.Modules.{core_of}
use Rattle.ty_load.proofs.Keys.{TellAssembliesFrom}
use Rattle.ty_load.proofs.assembly.assemblies.Given as goal

abbrev pub invariant-loop-left : goal.invariant-loop-left
invariant-loop-left l = record {
  within : l.left ≤ core_of l.modules;
  told : TellAssembliesFrom l.modules l.left l.found.entries;
}

abbrev pub decreases-loop-left : goal.decreases-loop-left
decreases-loop-left l = l.left
