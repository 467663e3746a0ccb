use Rattle.md_sigs.proofs.Productions.{by_productions}
use Rattle.md_sigs.proofs.laws.types_by_productions.Goals as goal

pub returns : goal.returns
returns c = by_productions
