use Rattle.std.proofs.Common.{◌∙◌, ◌++◌, List, ap, filter, sym}
use Rattle.ty_terms.specs.declared.names.TypeId.{TypeId}
use Rattle.ty_load.specs.Bases.{is_value_type}
use Rattle.ty_load.specs.Cycles.{ids_of}
use Rattle.ty_walks.proofs.Listed.{filtered_more}
use Rattle.ty_walks.proofs.values.value_types.Goals as goal

pub loop-module-preserved : goal.loop-module-preserved
loop-module-preserved c =
    c.in_ok-add_values.ensures
    ∙ ap (λ (l : List TypeId). l
    ++ filter (is_value_type c.args.names.now) (ids_of c.args.names.now c.loop-module.module))
    c.loop-module.invariant
    ∙ sym (filtered_more (is_value_type c.args.names.now) c.args.names.now c.loop-module.module)
