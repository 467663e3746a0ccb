use Rattle.std.proofs.Common.{length}
use Rattle.il_text.proofs.wrong.+wrong_in_tables.Given as goal

abbrev pub decreases-wrong_in_tables : goal.decreases-wrong_in_tables
decreases-wrong_in_tables l = length l.schemas.now
