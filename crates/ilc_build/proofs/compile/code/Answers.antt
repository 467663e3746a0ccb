use Rattle.std.proofs.Common.{ℕ}
use Rattle.ilc_build.specs.Code.{code_of, place_of}
use Rattle.ilc_build.specs.Depths.{row}
use Rattle.ilc_build.proofs.Emitted.{emitted, few_more, all_more}
use Rattle.ilc_build.proofs.compile.code.Goals as goal

pub loop-index-preserved : goal.loop-index-preserved
loop-index-preserved c =
    let places : ℕ → ℕ = place_of c.args.instrs.now c.args.table.now in record {
      code = emitted places (code_of c.args.instrs.now c.args.table.now) c.loop-index.code.items
          c.emit_instr.new.code.items c.args.instrs.now c.args.table.now c.loop-index.index c.requires.size
          c.loop-index-test.true c.loop-index.invariant.code c.in_ok-emit_instr.ensures.code;
      constants = all_more c.args.instrs.now c.loop-index.index c.loop-index-test.true
          c.in_ok-emit_instr.ensures.constant c.loop-index.invariant.constants;
      few = few_more places c.loop-index.code.items c.emit_instr.new.code.items
          (row c.args.table.now c.loop-index.index) c.args.instrs.now c.loop-index.index c.loop-index-test.true
          c.in_ok-emit_instr.ensures.code c.loop-index.invariant.few;
    }
