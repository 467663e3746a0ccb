use Rattle.std.proofs.Common.{◌∙◌, [], length, ap, arith}
use Rattle.std.proofs.lemmas.List.{length-replicate}
use Rattle.std.proofs.lemmas.List.Elements.{All-push, All-nil}
use Rattle.ilc_build.specs.Depths.{IsBelow, known_at}
use Rattle.ilc_build.specs.declared.depths.Known.TheVariants.{Nothing, Depth}
use Rattle.ilc_build.proofs.Knowing.{below-trans}
use Rattle.ilc_build.proofs.Rising.{ranks-bound}
use Rattle.ilc_build.proofs.Rows.{known_at-grows, nothing-below}
use Rattle.ilc_build.proofs.depths.settle.Goals as goal

pub loop-init : goal.loop-init
loop-init c = record {
  size = c.raise.ensures.raised.size ∙ ap length c.requires.nothing
      ∙ length-replicate (length c.args.instrs.now) Nothing;
  shallow = c.raise.ensures.raised.shallow;
  first = c.raise.ensures.told 0 0 (omega arith);
  below = λ other solution. c.raise.ensures.below other solution.size
      (nothing-below (length c.args.instrs.now) c.args.table.now other c.requires.nothing)
      (All-push (λ o. IsBelow (Depth 0) (known_at c.args.instrs.now other o)) [] 0 (All-nil _) solution.first);
}

pub loop-smaller : goal.loop-smaller
loop-smaller c = omega (
  arith,
  c.spread.ensures.raised.size,
  c.spread.ensures.raised.more c.loop-test.true,
  ranks-bound c.spread.new.table,
)

pub loop-preserved : goal.loop-preserved
loop-preserved c = record {
  size = c.spread.ensures.raised.size ∙ c.loop.invariant.size;
  shallow = c.spread.ensures.raised.shallow;
  first = below-trans (Depth 0) _ _ c.loop.invariant.first
      (known_at-grows c.args.instrs.now c.loop.table c.spread.new.table 0 c.spread.ensures.raised.size
      c.spread.ensures.raised.grows);
  below = λ other solution. c.spread.ensures.below other solution (c.loop.invariant.below other solution);
}
