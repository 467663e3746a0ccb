use Rattle.std.proofs.Common.{◌≡◌, ◌++◌, take, map}
use Rattle.il_code.specs.Marks.{fact_of}
use Rattle.il_code.specs.Reach.{handlers_of}
use Rattle.il_code.proofs.reach.add_handlers.Given as goal

abbrev pub invariant-loop-clause : goal.invariant-loop-clause
invariant-loop-clause l = l.facts.items
    ≡ l.fn.facts.items ++ map fact_of (handlers_of (take l.clause-index l.clauses) l.offset)
