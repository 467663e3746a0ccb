use Rattle.std.proofs.Common.{◌∙◌}
use Rattle.ty_load.proofs.Keys.{noted}
use Rattle.ty_load.proofs.types.note_type.Goals as goal

pub returns : goal.returns
returns c =
    noted c.args.tables.now c.args.row c.in_ok-key.key c.args.rows.now.entries c.insert.new.self.entries
    (c.in_ok-key.ensures.around ∙ c.requires) (c.in_ok-key.ensures.space ∙ c.type_namespace.ensures.name)
    (c.in_ok-key.ensures.named ∙ c.type_name.ensures.name) c.in_ok-insert.ensures.entries
