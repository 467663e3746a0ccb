use Rattle.il_verify.proofs.Reached.{alike, reached_found}
use Rattle.il_verify.proofs.laws.offsets_reached.Goals as goal

pub returns-clause-reached : goal.returns-clause-reached
returns-clause-reached c = reached_found

pub returns-clause-alike : goal.returns-clause-alike
returns-clause-alike c = alike
