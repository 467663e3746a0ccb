use Rattle.disp_rows.proofs.Laying.{one_laid}
use Rattle.disp_rows.proofs.plan.take_places.Goals as goal

pub loop-cell-preserved : goal.loop-cell-preserved
loop-cell-preserved c = record {
  free = c.take_place.ensures.free;
  laid =
      one_laid c.args.places.now c.loop-cell.places c.take_place.new.places c.args.cells.now c.args.row c.args.start
      c.loop-cell.cell-index c.requires.distinct c.loop-cell-test.true c.loop-cell.invariant.laid
      c.take_place.ensures.cells;
}
