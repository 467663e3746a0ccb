use Rattle.std.proofs.Common.{sym, ap, ◌∙◌}
use Rattle.std.specs.List.{list_all}
use Rattle.ty_terms.specs.Subst.{has_variables_below}
use Rattle.ty_terms.proofs.SubstLaws.{below_named}
use Rattle.ty_terms.proofs.substitution.+variables.Goals as goal

pub variables_below-returns-in-Named : goal.variables_below-returns-in-Named
variables_below-returns-in-Named t c =
    let test = has_variables_below c.args.owner c.args.method in
    c.all_variables_below.ensures
    ∙ ap (list_all test) c.as_slice.ensures
    ∙ sym (below_named c.args.owner c.args.method c.in-Named.field-0 c.in-Named.args)
    ∙ ap test (sym c.in-Named.is)
