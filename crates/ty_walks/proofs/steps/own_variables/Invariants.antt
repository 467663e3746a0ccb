use Rattle.std.proofs.Common.{◌≡◌, map}
use Rattle.std.specs.List.{range_with_len}
use Rattle.ty_terms.specs.declared.ty.Ty.TheVariants.{Var}
use Rattle.ty_walks.proofs.steps.own_variables.Given as goal

abbrev pub invariant-loop-number : goal.invariant-loop-number
invariant-loop-number l = l.variables ≡ map (λ n. Var n) (range_with_len 0 l.number)
