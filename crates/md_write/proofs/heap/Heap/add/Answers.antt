use Rattle.std.proofs.Common.{◌∙◌, ap, sym}
use Rattle.md_write.specs.Heap.{with_item, unless_there}
use Rattle.md_write.proofs.heap.Heap.add.Goals as goal

pub returns-in-Some : goal.returns-in-Some
unfolding with_item
returns-in-Some c = sym (ap (unless_there c.args.self.now c.args.item.now) (sym c.index_in.ensures ∙ c.in-Some.is))

pub returns-in-Ok : goal.returns-in-Ok
unfolding with_item
returns-in-Ok c =
    c.in-Ok.ensures
    ∙ sym (ap (unless_there c.args.self.now c.args.item.now) (sym c.index_in.ensures ∙ c.in-None.is))
