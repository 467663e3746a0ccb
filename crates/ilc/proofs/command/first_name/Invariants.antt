use Rattle.std.proofs.Common.{◌≡◌, drop}
use Rattle.ilc.specs.Words.{first_name}
use Rattle.ilc.proofs.command.first_name.Given as goal

abbrev pub invariant-loop-item : goal.invariant-loop-item
invariant-loop-item l = first_name l.items ≡ first_name (drop l.item-index l.items)
