use Rattle.num_core.proofs.DivisionLaws.{quotient_in_range, remainder_lies}
use Rattle.num_core.proofs.IntegerLaws.{reading_lies}
use Rattle.num_core.specs.Integers.{number, is_signed, width}
use Rattle.num_core.proofs.laws.divisions.Goals as goal

pub returns-clause-quotient_in_range : goal.returns-clause-quotient_in_range
returns-clause-quotient_in_range c = λ kind a b f g. quotient_in_range kind a b f g

pub returns-clause-remainder_in_range : goal.returns-clause-remainder_in_range
returns-clause-remainder_in_range c =
    λ kind a b f. remainder_lies (is_signed kind) (width kind) (number kind a) (number kind b)
    (reading_lies (is_signed kind) (width kind) a f)
