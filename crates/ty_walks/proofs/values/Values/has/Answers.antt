use Rattle.std.proofs.Common.{◌∙◌, List, ap}
use Rattle.std.specs.List.{list_any}
use Rattle.ty_terms.specs.declared.names.TypeId.{TypeId}
use Rattle.ty_load.specs.Bases.{same_id}
use Rattle.ty_walks.proofs.values.Values.has.Goals as goal

pub returns : goal.returns
returns c =
    c.contains.ensures ∙ c.self.invariant (c.args.id.module, c.args.id.row)
    ∙ ap (λ (ids : List TypeId). list_any (λ value. same_id value c.args.id) ids) c.self.view_is
