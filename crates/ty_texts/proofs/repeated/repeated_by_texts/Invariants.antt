use Rattle.std.proofs.Common.{◌-◌}
use Rattle.ty_names.specs.Modules.{tables_at}
use Rattle.ty_names.specs.Definitions.{type_count}
use Rattle.ty_texts.proofs.Repeats.{AreLookedAt}
use Rattle.ty_texts.proofs.repeated.repeated_by_texts.Given as goal

abbrev pub invariant-loop-before : goal.invariant-loop-before
invariant-loop-before l = AreLookedAt l.names l.module l.before l.told.keys

abbrev pub decreases-loop-before : goal.decreases-loop-before
decreases-loop-before l = type_count (tables_at l.names l.module) - l.before
