use Rattle.std.proofs.Common.{◌≡◌, ◌++◌, drop, map}
use Rattle.rv_isa.specs.Instructions.{word_of}
use Rattle.image_plan.specs.Written.{bytes_of}
use Rattle.image_plan.proofs.runtime.put_code.Given as goal

abbrev pub invariant-loop-ins : goal.invariant-loop-ins
invariant-loop-ins l = l.initial.bytes ++ bytes_of (map word_of l.code) ≡ l.bytes ++ bytes_of (map word_of (drop l.ins-index l.code))
