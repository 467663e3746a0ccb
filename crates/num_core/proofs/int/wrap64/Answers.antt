-- Each value that the calls pass on fits its width, so the casts leave it.
use Rattle.std.proofs.Common.{◌∙◌, ◌^◌, ap, rules, FitsSigned, pos, to_z}
use Rattle.std.proofs.lemmas.Int.{to_z-of_z}
use Rattle.std.specs.Int.{int_wrap, int_rem_euclid, w64, w128}
use Rattle.std.specs.Int.RustNames.{unsigned_abs}
use Rattle.num_core.proofs.int.wrap64.Goals as goal

pub returns : goal.returns
unfolding int_wrap
returns c =
    let whole : FitsSigned w64 c.cast_signed.result = search rules in
    let rest : FitsSigned w128 c.rem_euclid.result = search rules in
    to_z-of_z w64 c.cast_signed.result whole ∙ c.cast_signed.ensures
    ∙ ap (λ z. to_z w64 (unsigned_abs z))
    (to_z-of_z w128 c.rem_euclid.result rest ∙ c.rem_euclid.ensures.value
    ∙ ap (λ z. int_rem_euclid z (pos (2 ^ 64))) (to_z-of_z w128 c.args.n c.ranges.n))
