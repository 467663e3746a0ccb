use Rattle.std.proofs.Common.{length}
use Rattle.md_tables.proofs.fits.+are_behind.Given as goal

abbrev pub decreases-are_behind : goal.decreases-are_behind
decreases-are_behind l = length l.columns.now
