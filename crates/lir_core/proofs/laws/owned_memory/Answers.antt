use Rattle.lir_core.proofs.Giving.{allocates_given, ends_gives, reads_given, writes_given}
use Rattle.lir_core.proofs.Owned.{owns_no_more}
use Rattle.lir_core.proofs.laws.owned_memory.Goals as goal

pub returns : goal.returns
returns c = record {
  owned = owns_no_more;
  allocating = allocates_given;
  writing = writes_given;
  reading = reads_given;
  ending = ends_gives;
}
