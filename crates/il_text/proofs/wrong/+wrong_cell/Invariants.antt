use Rattle.std.proofs.Common.{length}
use Rattle.il_text.proofs.wrong.+wrong_cell.Given as goal

abbrev pub decreases-wrong_cell : goal.decreases-wrong_cell
decreases-wrong_cell l = length l.columns.now
