-- A product that fits 128 bits is exact, and one that does not is out of range.
use Rattle.std.proofs.Common.{◌≡◌, ◌∙◌, ap, sym, subst, ℤ, ◌*ℤ◌, Option, IfSome, SomeIff, FitsSigned, to_z, of_z}
use Rattle.std.proofs.lemmas.Int.{to_z-of_z}
use Rattle.std.specs.Int.{w128}
use Rattle.num_core.specs.Integers.{number, checked}
use Rattle.num_core.proofs.WideNumbers.{read_number_is, refused}
use Rattle.num_core.proofs.arithmetic.mul_ovf.Goals as goal

exact : (c : goal.After-checked) → to_z w128 (of_z w128 c.in-Some.product) ≡ number c.args.kind c.args.a *ℤ number
    c.args.kind c.args.b
exact c =
    let kind = c.args.kind in
    let x = read_number_is kind c.args.a c.number_of.result c.requires.a c.ranges.a c.number_of.ensures in
    let y = read_number_is kind c.args.b c.number_of-2.result c.requires.b c.ranges.b c.number_of-2.ensures in
    let product : ℤ = to_z w128 (of_z w128 c.number_of.result) *ℤ to_z w128 (of_z w128 c.number_of-2.result) in
    let h = subst (λ (o : Option ℤ). SomeIff o (FitsSigned w128 product) product) c.in-Some.is c.checked_mul.ensures in
    let fits : FitsSigned w128 c.in-Some.product = subst (FitsSigned w128) (sym h.1) h.0 in
    to_z-of_z w128 c.in-Some.product fits ∙ h.1 ∙ (λ i. x i *ℤ y i)

pub returns-in-Some-clause-value : goal.returns-in-Some-clause-value
returns-in-Some-clause-value c = c.checked.ensures.value ∙ ap (checked c.args.kind) (exact c)

pub returns-in-Some-clause-number : goal.returns-in-Some-clause-number
returns-in-Some-clause-number c = subst (λ (z : ℤ). IfSome c.checked.result (λ r. number c.args.kind r ≡ z)) (exact c)
    c.checked.ensures.number

pub returns-in-None-clause-value : goal.returns-in-None-clause-value
returns-in-None-clause-value c =
    let kind = c.args.kind in
    let x = read_number_is kind c.args.a c.number_of.result c.requires.a c.ranges.a c.number_of.ensures in
    let y = read_number_is kind c.args.b c.number_of-2.result c.requires.b c.ranges.b c.number_of-2.ensures in
    let product : ℤ = to_z w128 (of_z w128 c.number_of.result) *ℤ to_z w128 (of_z w128 c.number_of-2.result) in
    let not_fits = subst (λ (o : Option ℤ). SomeIff o (FitsSigned w128 product) product) c.in-None.is
    c.checked_mul.ensures in
    refused kind product not_fits ∙ (λ i. checked kind (x i *ℤ y i))
