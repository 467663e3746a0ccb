use Rattle.std.proofs.Common.{◌∙◌, ◌==◌, ◌&&◌, ℕ, Some, ap, cond}
use Rattle.image_plan.specs.Found.{address_in}
use Rattle.image_plan.specs.Places.{kind_number}
use Rattle.image_plan.proofs.addresses.note.Goals as goal

pub returns : goal.returns
returns c = λ kind item.
    c.in_ok-insert.ensures.updates.0 (kind_number kind, item)
    ∙ ap (λ (n : ℕ). cond (n == kind_number kind && c.args.name.item == item) (Some c.args.name.address)
    (address_in c.args.found.now.entries kind item)) c.kind_number.ensures
