use Rattle.std.proofs.Common.{◌≡◌, ◌++◌, take, map}
use Rattle.il_code.specs.Marks.{fact_of}
use Rattle.il_code.proofs.reach.add_all.Given as goal

abbrev pub invariant-loop-offset : goal.invariant-loop-offset
invariant-loop-offset l = l.facts.items ≡ l.fn.facts.items ++ map fact_of (take l.offset-index l.offsets)
