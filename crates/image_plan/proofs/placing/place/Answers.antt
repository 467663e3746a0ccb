use Rattle.std.proofs.Common.{sym, subst}
use Rattle.image_plan.specs.Planned.{SegmentsFit}
use Rattle.image_plan.proofs.Fitting.{segments_fit}
use Rattle.image_plan.proofs.Holding.{holds_plan}
use Rattle.image_plan.proofs.Mapping.{mapped_plan}
use Rattle.image_plan.proofs.Near.{has_plan}
use Rattle.image_plan.proofs.Tiling.{tiled_plan}
use Rattle.image_plan.proofs.placing.place.Goals as goal

pub returns-clause-segments : goal.returns-clause-segments
returns-clause-segments c =
    subst SegmentsFit (sym c.in_ok-plan.ensures.layout)
    (segments_fit c.args.pieces.now c.args.bounds c.requires.pieces c.in_ok-ends.ensures.fits)

pub returns-clause-tiled : goal.returns-clause-tiled
returns-clause-tiled c =
    tiled_plan _ _ c.args.pieces.now c.args.bounds c.in_ok-plan.ensures.layout c.in_ok-plan.ensures.parts
    c.requires.pieces

pub returns-clause-mapped : goal.returns-clause-mapped
returns-clause-mapped c =
    mapped_plan _ _ c.args.pieces.now c.in_ok-plan.ensures.parts c.in_ok-plan.ensures.map

pub returns-clause-loaded : goal.returns-clause-loaded
returns-clause-loaded c =
    holds_plan _ c.args.pieces.now c.args.bounds c.in_ok-plan.ensures.layout c.requires.pieces
    c.in_ok-ends.ensures.fits

pub returns-clause-fixed : goal.returns-clause-fixed
returns-clause-fixed c =
    has_plan _ c.args.pieces.now c.args.bounds c.in_ok-plan.ensures.layout c.requires.pieces
    c.in_ok-ends.ensures.fits
