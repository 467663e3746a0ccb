use Rattle.std.proofs.Common.{◌≡◌, All, map, take}
use Rattle.rv_isa.specs.Instructions.{IsLegal, word_of}
use Rattle.rv_gen.proofs.placing.encoded.Given as goal

abbrev pub invariant-loop-ins : goal.invariant-loop-ins
invariant-loop-ins l = record {
  words : l.words ≡ map word_of (take l.ins-index l.code);
  legal : All IsLegal (take l.ins-index l.code);
}
