-- The operation at 128 bits is exact.
use Rattle.std.proofs.Common.{◌≡◌, ◌∙◌, ap, subst, ℤ, ◌-ℤ◌, IfSome, to_z, of_z}
use Rattle.std.specs.Int.{w128}
use Rattle.num_core.specs.Integers.{number, checked}
use Rattle.num_core.proofs.WideNumbers.{wide_number, read_number_is, difference_is}
use Rattle.num_core.proofs.arithmetic.sub_ovf.Goals as goal

exact : (c : goal.After-checked) → to_z w128
    (of_z w128 (to_z w128 (of_z w128 c.number_of.result) -ℤ to_z w128 (of_z w128 c.number_of-2.result))) ≡ number
    c.args.kind c.args.a -ℤ number c.args.kind c.args.b
exact c =
    let kind = c.args.kind in
    difference_is (number kind c.args.a) (number kind c.args.b) _ _ (wide_number kind c.args.a c.requires.a)
    (wide_number kind c.args.b c.requires.b)
    (read_number_is kind c.args.a c.number_of.result c.requires.a c.ranges.a c.number_of.ensures)
    (read_number_is kind c.args.b c.number_of-2.result c.requires.b c.ranges.b c.number_of-2.ensures)

pub returns-clause-value : goal.returns-clause-value
returns-clause-value c = c.checked.ensures.value ∙ ap (checked c.args.kind) (exact c)

pub returns-clause-number : goal.returns-clause-number
returns-clause-number c = subst (λ (z : ℤ). IfSome c.checked.result (λ r. number c.args.kind r ≡ z)) (exact c)
    c.checked.ensures.number
