use Rattle.std.proofs.Common.{refl}
use Rattle.md_rows.specs.Tables.{tables}
use Rattle.md_rows.proofs.schema.schemas.Goals as goal

pub returns : goal.returns
unfolding tables
returns c = refl
