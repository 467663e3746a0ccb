use Rattle.std.proofs.Common.{◌≡◌, drop}
use Rattle.ilc.specs.Words.{argument_of}
use Rattle.ilc.proofs.command.argument_of.Given as goal

abbrev pub invariant-loop-item : goal.invariant-loop-item
invariant-loop-item l = argument_of l.wanted l.items ≡ argument_of l.wanted (drop l.item-index l.items)
