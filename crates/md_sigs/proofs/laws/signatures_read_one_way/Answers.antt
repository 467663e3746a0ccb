use Rattle.md_sigs.proofs.Whole.{one_sig}
use Rattle.md_sigs.proofs.laws.signatures_read_one_way.Goals as goal

pub returns : goal.returns
returns c = one_sig
