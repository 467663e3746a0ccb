use Rattle.md_sigs.proofs.Whole.{one_type}
use Rattle.md_sigs.proofs.laws.types_read_one_way.Goals as goal

pub returns : goal.returns
returns c = one_type
