use Rattle.std.proofs.Common.{◌≡◌, ◌++◌, filter, map}
use Rattle.std.specs.List.{range_with_len}
use Rattle.ty_names.specs.References.{id_of}
use Rattle.ty_load.specs.Bases.{is_value_type}
use Rattle.ty_walks.proofs.values.add_values.Given as goal

-- those of the first rows
abbrev pub invariant-loop-before : goal.invariant-loop-before
invariant-loop-before l =
    l.values ≡ l.fn.values ++ filter (is_value_type l.names) (map (id_of l.module) (range_with_len 1 l.before))
