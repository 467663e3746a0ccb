use Rattle.std.proofs.Common.{◌∙◌, ◌-◌, ℕ, arith, ne_eqb}
use Rattle.ty_texts.proofs.Repeats.{leads_on}
use Rattle.ty_texts.proofs.repeated.is_around_itself.Goals as goal

pub loop-left-preserved : goal.loop-left-preserved
loop-left-preserved c =
    let left : ℕ = c.loop-left.left in
    let next : ℕ = c.enclosing-row.result in
    c.loop-left.invariant
    ∙ leads_on c.args.names.now c.args.id c.loop-left.row next left (left - 1) (omega arith) c.enclosing-row.ensures
    (ne_eqb next 0 (λ e. omega (arith, e))) (ne_eqb next c.args.id.row (λ e. omega (arith, e)))
