use Rattle.std.proofs.Common.{rules, ◌≡◌, ◌∙◌, ◌++◌, ◌∷◌, [], ℕ, List, ap, arith, sym}
use Rattle.std.proofs.lemmas.List.FromFn.{map-range_with_len_more}
use Rattle.ty_terms.specs.declared.ty.Ty.{Ty}
use Rattle.ty_terms.specs.declared.ty.Ty.TheVariants.{Var}
use Rattle.ty_walks.proofs.steps.own_variables.Goals as goal

pub loop-number-preserved : goal.loop-number-preserved
loop-number-preserved c =
    let number : ℕ = c.loop-number.number in
    let pushed : c.push.new.self ≡ c.loop-number.variables ++ Var number ∷ [] = search rules in
    pushed ∙ ap (λ (l : List Ty). l ++ Var number ∷ []) c.loop-number.invariant
    ∙ sym (map-range_with_len_more (λ n. Var n) 0 number number (omega arith))
