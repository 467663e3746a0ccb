use Rattle.std.proofs.Common.{◌≡◌, ◌++◌, map}
use Rattle.std.specs.List.{range_with_len}
use Rattle.ty_names.specs.References.{id_of}
use Rattle.ty_world.proofs.numbering.push_ids.Given as goal

abbrev pub invariant-loop-before : goal.invariant-loop-before
invariant-loop-before l =
    l.ids.items ≡ l.initial.ids.items ++ map (id_of l.module) (range_with_len 1 l.before)
