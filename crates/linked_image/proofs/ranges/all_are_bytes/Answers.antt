use Rattle.std.proofs.Common.{subst}
use Rattle.std.proofs.lemmas.List.Elements.{All-more}
use Rattle.rv_step.specs.Bytes.{AreBytes}
use Rattle.image_plan.specs.declared.pieces.TablePiece.{TablePiece}
use Rattle.linked_image.proofs.ranges.all_are_bytes.Goals as goal

pub loop-table-preserved : goal.loop-table-preserved
loop-table-preserved c =
    let own : AreBytes c.table-item.result.bytes = subst AreBytes c.as_slice.ensures c.are_bytes.ensures in
    All-more (λ (table : TablePiece). AreBytes table.bytes) c.args.tables.now c.loop-table.table-index
    c.table-item.result c.loop-table-test.true c.loop-table.invariant
    (subst (λ (table : TablePiece). AreBytes table.bytes) c.table-item.is own)
