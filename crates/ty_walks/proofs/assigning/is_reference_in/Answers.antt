use Rattle.std.proofs.Common.{◌∙◌, ap, sym, not}
use Rattle.ty_terms.specs.declared.ty.Ty.TheViews.{out-Ty}
use Rattle.ty_terms.specs.Induction.{out-Named}
use Rattle.ty_load.specs.Walks.{is_reference_in}
use Rattle.ty_walks.proofs.assigning.is_reference_in.Goals as goal

pub returns-in_ok-is_value_type-in-Named : goal.returns-in_ok-is_value_type-in-Named
returns-in_ok-is_value_type-in-Named c =
    ap not c.in_ok-is_value_type-in-Named.ensures
    ∙ ap (is_reference_in c.args.names.now)
    (sym (ap out-Ty c.in-Named.is ∙ out-Named c.in-Named.id c.in-Named.field-1))
