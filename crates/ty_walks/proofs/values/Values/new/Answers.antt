use Rattle.std.proofs.Common.{◌∙◌, List, ap}
use Rattle.std.specs.List.{list_any}
use Rattle.ty_terms.specs.declared.names.TypeId.{TypeId}
use Rattle.ty_load.specs.Bases.{same_id}
use Rattle.ty_walks.proofs.Knowing.{values_tell}
use Rattle.ty_walks.proofs.values.Values.new.Goals as goal

pub returns-clause-told : goal.returns-clause-told
returns-clause-told c =
    λ id. ap (λ (ids : List TypeId). list_any (λ value. same_id value id) ids) c.in_ok-ids.ensures
    ∙ values_tell c.args.names.now id
