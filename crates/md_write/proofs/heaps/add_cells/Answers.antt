use Rattle.std.proofs.Common.{◌∙◌, sym}
use Rattle.md_write.proofs.Steps.{with_cells_on, cells_end}
use Rattle.md_write.proofs.heaps.add_cells.Goals as goal

pub returns-in-None : goal.returns-in-None
returns-in-None c =
    sym (c.loop-index.invariant
    ∙ cells_end c.loop-index.heaps c.args.columns.now c.args.cells.now c.loop-index.index c.in-None.ensures.lookup.0)

pub loop-index-preserved : goal.loop-index-preserved
loop-index-preserved c =
    c.loop-index.invariant
    ∙ with_cells_on c.loop-index.heaps c.add_cell.new.heaps c.args.columns.now c.args.cells.now c.loop-index.index _
    c.in-Some.cell.now c.loop-index-test.true c.in-Some.ensures.lookup.0 c.in-Some.ensures.lookup.1 c.in-Ok.ensures
