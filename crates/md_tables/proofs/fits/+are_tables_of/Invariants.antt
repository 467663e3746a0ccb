use Rattle.std.proofs.Common.{length}
use Rattle.md_tables.proofs.fits.+are_tables_of.Given as goal

abbrev pub decreases-are_tables_of : goal.decreases-are_tables_of
decreases-are_tables_of l = length l.schemas.now
