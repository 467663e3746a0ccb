use Rattle.std.proofs.Common.{◌≡◌, map, take}
use Rattle.il_text.specs.Assembling.{cell_of}
use Rattle.il_text.specs.declared.draft.DraftCell.{DraftCell}
use Rattle.il_text.proofs.assembling.cells_of.Given as goal

abbrev pub invariant-loop-one : goal.invariant-loop-one
invariant-loop-one l = l.done ≡ map (λ (cell : DraftCell). cell_of cell.value) (take l.one-index l.cells)
