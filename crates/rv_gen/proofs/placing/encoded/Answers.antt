use Rattle.rv_isa.specs.Instructions.{IsLegal}
use Rattle.rv_gen.proofs.Encoded.{all_on, words_on}
use Rattle.rv_gen.proofs.placing.encoded.Goals as goal

pub loop-ins-preserved : goal.loop-ins-preserved
loop-ins-preserved c = record {
  words = words_on c.args.code.now c.loop-ins.ins-index c.ins-item.result c.encode.result c.loop-ins.words
      c.extend_from_slice.new.self c.loop-ins-test.true c.ins-item.is c.encode.ensures.word c.loop-ins.invariant.words
      c.in_ok-extend_from_slice.ensures.ok;
  legal = all_on IsLegal c.args.code.now c.loop-ins.ins-index c.ins-item.result c.loop-ins-test.true c.ins-item.is
      c.loop-ins.invariant.legal c.encode.ensures.legal;
}
