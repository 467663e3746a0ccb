use Rattle.md_sigs.specs.Grammar.{AreSig, AreType}
use Rattle.md_sigs.proofs.Whole.{refused_is_none}
use Rattle.md_sigs.proofs.laws.refusals.Goals as goal

pub returns-clause-signatures : goal.returns-clause-signatures
returns-clause-signatures c = λ m blob fault some refused. refused_is_none (AreSig m) blob fault refused some

pub returns-clause-types : goal.returns-clause-types
returns-clause-types c = λ m blob fault some refused. refused_is_none (AreType m) blob fault refused some
