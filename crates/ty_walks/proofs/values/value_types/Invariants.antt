use Rattle.std.proofs.Common.{◌≡◌, filter}
use Rattle.ty_load.specs.Bases.{is_value_type}
use Rattle.ty_walks.proofs.Listed.{first_ids}
use Rattle.ty_walks.proofs.values.value_types.Given as goal

-- those of the first modules
abbrev pub invariant-loop-module : goal.invariant-loop-module
invariant-loop-module l = l.values ≡ filter (is_value_type l.names) (first_ids l.names l.module)
