use Rattle.std.proofs.Common.{◌∙◌, ap, sym}
use Rattle.std.specs.Map.{lookup}
use Rattle.std.specs.Str.{bytes_eq}
use Rattle.md_write.specs.Heap.{HeapParts}
use Rattle.md_write.proofs.Items.{lookup_seen}
use Rattle.md_write.proofs.heap.Heap.index_in.Goals as goal

pub returns : goal.returns
returns c =
    c.copied.ensures
    ∙ (c.get.ensures.value
    ∙ (sym (lookup_seen (λ key. key.items) (bytes_eq c.args.item.now) c.self.inside.items.entries)
    ∙ ap (λ (heap : HeapParts). lookup (bytes_eq c.args.item.now) heap.items) c.self.view_is))
