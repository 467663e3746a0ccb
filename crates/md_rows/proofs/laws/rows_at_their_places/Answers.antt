use Rattle.md_rows.proofs.Places.{stand_at_their_places}
use Rattle.md_rows.proofs.laws.rows_at_their_places.Goals as goal

pub returns : goal.returns
returns c = stand_at_their_places
