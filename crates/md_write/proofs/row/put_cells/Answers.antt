use Rattle.std.proofs.Common.{◌∙◌, sym}
use Rattle.md_write.proofs.Steps.{bytes_end}
use Rattle.md_write.proofs.row.put_cells.Goals as goal

pub returns-in-None : goal.returns-in-None
returns-in-None c =
    sym (c.loop-index.invariant
    ∙ bytes_end c.loop-index.bytes c.args.heaps.now c.args.layout.now c.args.columns.now c.args.cells.now
    c.loop-index.index c.in-None.ensures.lookup.0)
