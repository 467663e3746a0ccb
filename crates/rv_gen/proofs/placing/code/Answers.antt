use Rattle.std.proofs.Common.{◌++◌, arith, ap, sym, drop}
use Rattle.rv_gen.specs.Placing.{code_from}
use Rattle.rv_gen.proofs.Near.{begins, code_on, in_step, low, stands_on}
use Rattle.rv_gen.proofs.placing.code.Goals as goal

pub loop-line-init : goal.loop-line-init
loop-line-init c = record {
  code = ap (λ xs. xs ++ code_from c.args.far.now c.args.places.now 0 0 c.args.lines.now) (sym c.new-code.ensures);
  stands = begins c.args.far.now c.args.places.now c.args.lines.now c.requires.far c.requires.places;
  few = omega arith;
  far_few = omega arith;
}

pub place_line-requires-clause-low : goal.place_line-requires-clause-low
place_line-requires-clause-low c =
    low c.args.far.now c.args.places.now c.args.lines.now c.requires.far c.requires.places c.requires.few

pub place_line-requires-clause-in_step : goal.place_line-requires-clause-in_step
place_line-requires-clause-in_step c =
    in_step c.args.far.now c.args.places.now c.loop-line.far_at c.loop-line.at
    (drop c.loop-line.line-index c.args.lines.now) c.loop-line.invariant.stands

pub loop-line-preserved : goal.loop-line-preserved
loop-line-preserved c = record {
  code = code_on c.args.far.now c.args.places.now c.loop-line.far_at c.loop-line.at c.loop-line.line-index
      c.longest-far_at.result c.size-at.result c.line-item.result c.args.lines.now
      (code_from c.args.far.now c.args.places.now 0 0 c.args.lines.now) c.loop-line.code c.place_line.new.code
      c.loop-line-test.true c.line-item.is c.longest-far_at.ensures.value c.size-at.ensures.value
      c.in_ok-place_line.ensures c.loop-line.invariant.code;
  stands = stands_on c.args.far.now c.args.places.now c.loop-line.far_at c.loop-line.at c.loop-line.line-index
      c.longest-far_at.result c.size-at.result c.line-item.result c.args.lines.now
      c.loop-line-test.true c.line-item.is c.longest-far_at.ensures.value c.size-at.ensures.value
      c.loop-line.invariant.stands;
  few = omega (arith, c.size-at.ensures.bound, c.loop-line.invariant.few);
  far_few = omega (arith, c.longest-far_at.ensures.bound, c.loop-line.invariant.far_few);
}
