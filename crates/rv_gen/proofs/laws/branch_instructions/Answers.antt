use Rattle.rv_gen.proofs.Tests.{not_taken, taken}
use Rattle.rv_lines.proofs.Tests.{tested}
use Rattle.rv_gen.proofs.laws.branch_instructions.Goals as goal

pub returns : goal.returns
returns c = record { taken = taken; not_taken = not_taken; tested = tested }
