use Rattle.std.proofs.Common.{All, take}
use Rattle.rv_step.specs.Bytes.{AreBytes}
use Rattle.image_plan.specs.declared.pieces.TablePiece.{TablePiece}
use Rattle.linked_image.proofs.ranges.all_are_bytes.Given as goal

abbrev pub invariant-loop-table : goal.invariant-loop-table
invariant-loop-table l = All (λ (table : TablePiece). AreBytes table.bytes) (take l.table-index l.tables)
