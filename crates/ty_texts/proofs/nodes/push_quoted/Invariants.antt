use Rattle.std.proofs.Common.{◌≡◌, ◌++◌, ◌∷◌, [], drop, if◌then◌else◌}
use Rattle.std.specs.List.{flat_map}
use Rattle.ty_names.specs.Escapes.{escaped}
use Rattle.ty_load.specs.Texts.{is_plain_in_string}
use Rattle.ty_texts.proofs.nodes.push_quoted.Given as goal

-- the text so far, and the units that are left
abbrev pub invariant-loop-unit : goal.invariant-loop-unit
invariant-loop-unit l =
    l.initial.text ++ flat_map (λ unit. if is_plain_in_string unit then unit ∷ [] else escaped unit) l.units
    ≡ l.text
    ++ flat_map (λ unit. if is_plain_in_string unit then unit ∷ [] else escaped unit) (drop l.unit-index l.units)
