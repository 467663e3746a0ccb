use Rattle.std.proofs.Common.{◌≡◌, ◌∙◌, Some, ap, sym}
use Rattle.ty_names.specs.Modules.{World}
use Rattle.ty_names.specs.Definitions.{assembly_name}
use Rattle.ty_load.specs.Valid.{name_at}
use Rattle.ty_world.proofs.Twice.{earlier}
use Rattle.ty_world.proofs.repeated.has_earlier.Goals as goal

pub returns-in-Some : goal.returns-in-Some
returns-in-Some c =
    let world : World = c.args.names.now in
    let named : name_at world c.args.number ≡ Some c.in-Some.name.now =
    sym (c.in-Some.ensures.name ∙ ap assembly_name c.tables.ensures) in
    c.is_other.ensures
    ∙ earlier world c.args.number c.in-Some.name.now c.handed_in.result c.requires named c.handed_in.ensures
