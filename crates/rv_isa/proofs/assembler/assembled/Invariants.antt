use Rattle.std.proofs.Common.{◌≡◌, ◌++◌, drop}
use Rattle.std.specs.List.{AllByRecursion}
use Rattle.rv_isa.specs.Instructions.{IsLegal}
use Rattle.rv_isa.specs.Assembly.{filled_from, missed_from, bytes_of}
use Rattle.rv_isa.proofs.assembler.assembled.Given as goal

-- what is written and what is left make the whole
abbrev pub invariant-loop-at : goal.invariant-loop-at
invariant-loop-at l = record {
  written : l.bytes ++ bytes_of (filled_from l.places l.at (drop l.at l.emitted))
      ≡ bytes_of (filled_from l.places 0 l.emitted);
  legal : AllByRecursion IsLegal (filled_from l.places l.at (drop l.at l.emitted))
      → AllByRecursion IsLegal (filled_from l.places 0 l.emitted);
  missed : missed_from l.places l.at (drop l.at l.emitted) ≡ missed_from l.places 0 l.emitted;
}
