use Rattle.std.proofs.Common.{◌≡◌, ◌++◌, drop}
use Rattle.ty_names.specs.Escapes.{units_text}
use Rattle.ty_names.proofs.escapes.push_units.Given as goal

-- the text so far, and the units that are left
abbrev pub invariant-loop-unit : goal.invariant-loop-unit
invariant-loop-unit l = l.initial.text ++ units_text l.units ≡ l.text ++ units_text (drop l.unit-index l.units)
