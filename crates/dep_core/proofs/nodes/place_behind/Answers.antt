use Rattle.std.proofs.Common.{slice_get, ap, ◌∙◌}
use Rattle.dep_core.proofs.InOrder.{skipped}
use Rattle.dep_core.proofs.nodes.place_behind.Goals as goal

pub returns : goal.returns
returns g c =
    skipped c.walk.result c.args.behind c.nth.result c.nth.new.self c.nth.ensures.ran
    ∙ ap (λ l. slice_get l c.args.behind) c.walk.ensures
