use Rattle.std.proofs.Common.{◌≡◌, ◌++◌, drop}
use Rattle.ty_names.specs.Escapes.{behind_angle}
use Rattle.ty_names.proofs.Angles.{left_text}
use Rattle.ty_names.proofs.escapes.push_behind_angle.Given as goal

-- the text so far, and the units that are left
abbrev pub invariant-loop-unit : goal.invariant-loop-unit
invariant-loop-unit l =
    l.initial.text ++ behind_angle l.units ≡ l.text ++ left_text l.is_closed (drop l.unit-index l.units)
