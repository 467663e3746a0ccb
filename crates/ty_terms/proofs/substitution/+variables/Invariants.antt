use Rattle.std.proofs.Common.{◌≡◌, drop}
use Rattle.std.specs.List.{list_all}
use Rattle.ty_terms.specs.Subst.{has_variables_below}
use Rattle.ty_terms.proofs.substitution.+variables.Given as goal

abbrev pub invariant-all_variables_below-loop-ty : goal.invariant-all_variables_below-loop-ty
invariant-all_variables_below-loop-ty l =
    list_all (has_variables_below l.owner l.method) (drop l.ty-index l.types)
    ≡ list_all (has_variables_below l.owner l.method) l.types
