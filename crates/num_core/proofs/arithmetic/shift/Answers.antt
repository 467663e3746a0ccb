-- A shift to the left at 128 bits is exact.
use Rattle.std.proofs.Common.{rules, ◌≡◌, ◌∙◌, ◌^◌, ap, sym, subst, pos, ◌*ℤ◌, FitsSigned, to_z, of_z}
use Rattle.std.proofs.lemmas.Int.{to_z-of_z}
use Rattle.std.specs.Int.{w64}
use Rattle.num_core.specs.declared.kind.ShiftOp.{ShiftOp}
use Rattle.num_core.specs.declared.kind.ShiftOp.TheVariants.{Left}
use Rattle.num_core.specs.Integers.{number, held, shifted, shift_amount}
use Rattle.num_core.proofs.WideNumbers.{wide_number, read_number_is, shifted_fits, shifted_is}
use Rattle.num_core.proofs.arithmetic.shift.Goals as goal

pub overflow_mul-number_of : goal.overflow_mul-number_of
overflow_mul-number_of c =
    let kind = c.args.kind in
    shifted_fits (number kind c.args.a) _ c.shift_amount-by.result (wide_number kind c.args.a c.requires)
    c.shift_amount-by.ensures.bound
    (read_number_is kind c.args.a c.number_of.result c.requires c.ranges.a c.number_of.ensures)

pub returns-in-Left-clause-value : goal.returns-in-Left-clause-value
returns-in-Left-clause-value c =
    let kind = c.args.kind in
    let a = c.args.a in
    let by = c.shift_amount-by.result in
    let fits : FitsSigned w64 c.holding.result = search rules in
    let amount = c.shift_amount-by.ensures.value
    ∙ ap (shift_amount kind) (to_z-of_z w64 c.args.amount c.ranges.amount) in
    let moved = shifted_is (number kind a) _ by (wide_number kind a c.requires) c.shift_amount-by.ensures.bound
    (read_number_is kind a c.number_of.result c.requires c.ranges.a c.number_of.ensures) in
    let is : to_z w64 (of_z w64 c.holding.result) ≡ shifted Left kind a (shift_amount kind c.args.amount) =
    to_z-of_z w64 c.holding.result fits ∙ c.holding.ensures.value ∙ ap (held kind) moved
    ∙ ap (λ k. held kind (number kind a *ℤ pos (2 ^ k))) amount in
    subst (λ (op : ShiftOp). to_z w64 (of_z w64 c.holding.result) ≡ shifted op kind a (shift_amount kind c.args.amount))
    (sym c.in-Left.is) is
