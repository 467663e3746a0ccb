use Rattle.std.proofs.Common.{◌-◌}
use Rattle.ty_names.specs.Modules.{tables_at}
use Rattle.ty_names.specs.Definitions.{type_count}
use Rattle.ty_texts.proofs.Ordered.{AreNoted}
use Rattle.ty_texts.proofs.repeated.repeated_by_names.Given as goal

abbrev pub invariant-loop-before : goal.invariant-loop-before
invariant-loop-before l = AreNoted l.names l.module l.before l.told.keys

abbrev pub decreases-loop-before : goal.decreases-loop-before
decreases-loop-before l = type_count (tables_at l.names l.module) - l.before
