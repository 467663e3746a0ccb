use Rattle.std.proofs.Common.{◌≡◌, subst}
use Rattle.std.specs.Prelude.{IfOk}
use Rattle.ty_load.specs.Bases.{is_value_type}
use Rattle.world_layouts.proofs.world.WorldTypesDefinitions.is_value.Goals as goal

pub returns : goal.returns
returns c =
    subst (λ world. IfOk c.is_value_type.result (λ is. is ≡ is_value_type world c.args.id)) c.names.ensures
    c.is_value_type.ensures
