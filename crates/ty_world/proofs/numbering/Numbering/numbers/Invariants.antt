use Rattle.std.proofs.Common.{◌≡◌, map, take}
use Rattle.ty_world.specs.Numbering.{number_of}
use Rattle.ty_world.proofs.numbering.Numbering.numbers.Given as goal

abbrev pub invariant-loop-id : goal.invariant-loop-id
invariant-loop-id l = l.numbers ≡ map (number_of l.names) (take l.id-index l.ids)
