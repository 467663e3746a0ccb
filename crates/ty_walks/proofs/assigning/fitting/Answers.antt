use Rattle.std.proofs.Common.{◌≡◌, ◌+◌, Bool, arith, length, subst}
use Rattle.ty_terms.specs.Depth.{depth_of}
use Rattle.ty_load.specs.Cycles.{all_ids}
use Rattle.ty_load.specs.Told.{IsToldIn}
use Rattle.ty_load.specs.Walks.{fits_within, fitting}
use Rattle.ty_walks.proofs.assigning.fitting.Goals as goal

pub returns-in-Ok : goal.returns-in-Ok
unfolding fitting
returns-in-Ok c =
    let deep : c.depth-depth.result ≡ depth_of c.args.from.now =
    omega (arith, c.depth-depth.ensures, c.if-depth.false) in
    let bound : c.depth-depth.result + c.definition_count.result + 1
    ≡ depth_of c.args.from.now + length (all_ids c.args.names.now) + 1 =
    λ i. deep i + c.definition_count.ensures.count i + 1 in
    subst (IsToldIn {A = Bool} c.args.names.now c.fits.result)
    (λ i. fits_within (bound i) c.args.names.now (c.in-Ok.ensures i) c.args.to.now) c.fits.ensures
