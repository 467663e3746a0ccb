use Rattle.std.proofs.Common.{◌≡◌, ◌+◌, ◌-◌, ◌≤◌, nat_lt}
use Rattle.std.specs.List.{list_all, range_with_len}
use Rattle.ty_names.specs.Modules.{tables_at}
use Rattle.ty_names.specs.Definitions.{enclosing, type_count}
use Rattle.ty_texts.specs.Repeats.{are_in_order}
use Rattle.ty_texts.proofs.repeated.are_in_order.Given as goal

-- those that are left decide
abbrev pub invariant-loop-before : goal.invariant-loop-before
invariant-loop-before l = record {
  within : l.before ≤ type_count (tables_at l.names l.module);
  rest : are_in_order l.names l.module
      ≡ list_all (λ row. nat_lt (enclosing (tables_at l.names l.module) row) row)
      (range_with_len (l.before + 1) (type_count (tables_at l.names l.module) - l.before));
}

abbrev pub decreases-loop-before : goal.decreases-loop-before
decreases-loop-before l = type_count (tables_at l.names l.module) - l.before
