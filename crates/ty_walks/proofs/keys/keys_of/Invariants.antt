use Rattle.std.proofs.Common.{take}
use Rattle.ty_walks.specs.Known.{TellIds}
use Rattle.ty_walks.proofs.keys.keys_of.Given as goal

abbrev pub invariant-loop-id : goal.invariant-loop-id
invariant-loop-id l = TellIds (take l.id-index l.ids) l.keys.keys
