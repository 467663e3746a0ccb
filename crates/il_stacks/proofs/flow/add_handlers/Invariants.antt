use Rattle.std.proofs.Common.{◌≡◌, ◌++◌, filter, map, take}
use Rattle.il_stacks.specs.Flow.{entry, tries}
use Rattle.il_stacks.proofs.flow.add_handlers.Given as goal

abbrev pub invariant-loop-handler : goal.invariant-loop-handler
invariant-loop-handler l =
    l.facts.items ≡ l.fn.facts.items ++ map entry (filter (tries l.offset) (take l.handler-index l.handlers))
