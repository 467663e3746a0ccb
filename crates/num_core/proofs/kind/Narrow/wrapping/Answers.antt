-- The rest is the number of the range, or lies the modulus above it.
use Rattle.std.proofs.Common.{rules, arith, ◌≡◌, ◌∙◌, ap, subst, ℤ, ◌-ℤ◌, ◌≤ℤ◌, ◌<ℤ◌, FitsSigned, to_z, of_z}
use Rattle.std.proofs.lemmas.Int.{ints, to_z-of_z}
use Rattle.std.specs.Int.{w128, int_rem_euclid}
use Rattle.num_core.specs.Integers.{is_signed_type, width_of_type, modulus}
use Rattle.num_core.proofs.IntegerLaws.{rest_inside, rest_above}
use Rattle.num_core.proofs.kind.Narrow.wrapping.Goals as goal

pub returns-then-rest-greatest : goal.returns-then-rest-greatest
returns-then-rest-greatest c =
    let signed = is_signed_type c.args.self in
    let w = width_of_type c.args.self in
    let r = c.rem_euclid-rest.result in
    let fits : FitsSigned w128 r = search rules in
    let fits_modulus : FitsSigned w128 c.modulus.result = search rules in
    let fits_greatest : FitsSigned w128 c.greatest.result = search rules in
    let m = to_z-of_z w128 c.modulus.result fits_modulus ∙ c.modulus.ensures in
    let is : r ≡ int_rem_euclid c.args.whole (modulus w) = c.rem_euclid-rest.ensures.value
    ∙ (λ i. int_rem_euclid (to_z-of_z w128 c.args.whole c.ranges.whole i) (m i)) in
    let low : r ≤ℤ c.greatest.result = omega (arith, ints, c.if-rest-greatest.true) in
    to_z-of_z w128 r fits ∙ rest_inside signed w c.args.whole r is (subst (λ (g : ℤ). r ≤ℤ g) c.greatest.ensures low)

pub returns-else-rest-greatest : goal.returns-else-rest-greatest
returns-else-rest-greatest c =
    let signed = is_signed_type c.args.self in
    let w = width_of_type c.args.self in
    let r = c.rem_euclid-rest.result in
    let fits : FitsSigned w128 r = search rules in
    let fits_modulus : FitsSigned w128 c.modulus.result = search rules in
    let fits_greatest : FitsSigned w128 c.greatest.result = search rules in
    let m = to_z-of_z w128 c.modulus.result fits_modulus ∙ c.modulus.ensures in
    let is : r ≡ int_rem_euclid c.args.whole (modulus w) = c.rem_euclid-rest.ensures.value
    ∙ (λ i. int_rem_euclid (to_z-of_z w128 c.args.whole c.ranges.whole i) (m i)) in
    let high : c.greatest.result <ℤ r = omega (arith, ints, c.if-rest-greatest.false) in
    let again = c.modulus-else-rest-greatest.result in
    let fits_again : FitsSigned w128 again = search rules in
    let difference : FitsSigned w128 (r -ℤ again) = search rules in
    (λ i. to_z w128 (of_z w128 (to_z-of_z w128 r fits i -ℤ to_z-of_z w128 again fits_again i)))
    ∙ to_z-of_z w128 (r -ℤ again) difference
    ∙ ap (λ z. r -ℤ z) c.modulus-else-rest-greatest.ensures
    ∙ rest_above signed w c.args.whole r is (subst (λ (g : ℤ). g <ℤ r) c.greatest.ensures high)
