use Rattle.std.proofs.Common.{◌≡◌, ◌⊎◌, inl, inr, ◌+◌, ◌<◌, ℕ, subst, sym, arith}
use Rattle.ilc_build.specs.Depths.{IsClosedAt}
use Rattle.ilc_build.proofs.Telling.{raised-both, either_false}
use Rattle.ilc_build.proofs.depths.spread.Goals as goal

before_or_here : (n index : ℕ) → n < index + 1 → (n < index) ⊎ (n ≡ index)
before_or_here n index h = grind arith

pub loop-index-preserved : goal.loop-index-preserved
loop-index-preserved c =
    let inv = c.loop-index.invariant in
    let step = c.spread_from-more.ensures in
    record {
      raised = raised-both c.args.table.now c.loop-index.table c.spread_from-more.new.table c.loop-index.raised
          c.spread_from-more.result inv.raised step.raised;
      below = λ other solution within. step.below other solution (inv.below other solution within);
      closed = λ e n h.
          let both = either_false c.loop-index.raised c.spread_from-more.result e in
          elim (before_or_here n c.loop-index.index h) [
            | inl less ↦ subst (λ table. IsClosedAt c.args.instrs.now table n) (sym (step.raised.same both.1))
                (inv.closed both.0 n less)
            | inr here ↦ subst (λ m. IsClosedAt c.args.instrs.now c.spread_from-more.new.table m) (sym here)
                (step.closed both.1)
          ];
    }
