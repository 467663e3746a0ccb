use Rattle.std.proofs.Common.{rules}
use Rattle.ty_load.proofs.Implementing.{one_noted}
use Rattle.ty_load.proofs.interfaces.note_interface.Goals as goal

pub returns : goal.returns
returns c =
    one_noted c.args.row c.args.index c.args.found.now.entries c.take_noted-indexes.new.found.entries
    c.insert.new.self.entries c.take_noted-indexes.result c.push.new.self c.take_noted-indexes.ensures.taken
    (search rules) c.take_noted-indexes.ensures.others c.in_ok-insert.ensures.updates.0
