use Rattle.ty_load.proofs.Keys.{named}
use Rattle.ty_load.proofs.assembly.note_name.Goals as goal

pub returns : goal.returns
returns c =
    named c.args.name.now c.args.number c.in_ok-name.name c.args.found.now.entries c.insert.new.self.entries
    c.in_ok-name.ensures.items c.in_ok-insert.ensures.entries
