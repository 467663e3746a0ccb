use Rattle.std.proofs.Common.{◌≡◌, ◌∷◌, map, take}
use Rattle.ty_load.specs.Bases.{base_of, interface_by, interface_indexes}
use Rattle.ty_load.specs.Cycles.{definitions_in}
use Rattle.ty_world.proofs.relations.inherits.Given as goal

-- of the base and the interfaces so far
abbrev pub invariant-loop-index : goal.invariant-loop-index
invariant-loop-index l =
    l.ids.items
    ≡ definitions_in l.names (base_of l.names l.id ∷ map (interface_by l.names l.id)
    (take l.index-index (interface_indexes l.names l.id)))
