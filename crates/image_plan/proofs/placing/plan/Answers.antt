use Rattle.std.proofs.Common.{◌∙◌, ap}
use Rattle.image_plan.specs.Places.{address_among}
use Rattle.image_plan.specs.Planned.{layout_of, layout_with, map_of, map_rows}
use Rattle.image_plan.proofs.placing.plan.Goals as goal

pub returns-clause-layout : goal.returns-clause-layout
unfolding layout_of
returns-clause-layout c =
    c.in_ok-layout.ensures
    ∙ (λ i. layout_with (λ kind item. c.in_ok-addresses.ensures kind item i) c.args.pieces.now c.args.bounds)
    ∙ ap (λ known. layout_with (address_among known) c.args.pieces.now c.args.bounds)
    (c.as_slice-2.ensures ∙ c.in_ok-names.ensures)

pub returns-clause-map : goal.returns-clause-map
unfolding map_of
returns-clause-map c =
    c.in_ok-map.ensures
    ∙ ap (λ pieces. map_rows c.args.ends.code_at pieces) c.as_slice-3.ensures
    ∙ ap (λ at. map_rows at c.args.pieces.now.code) c.requires.ends.code_at
