use Rattle.num_core.proofs.IntegerLaws.{wrapped_lies, wrapped-inside, reading-inside, in_range-kind_of_type}
use Rattle.num_core.specs.Integers.{is_signed_type, width_of_type, is_signed, width, kind_of_type}
use Rattle.num_core.proofs.laws.conversions.Goals as goal

pub returns-clause-number_of_type_in_range : goal.returns-clause-number_of_type_in_range
returns-clause-number_of_type_in_range c = λ to z. wrapped_lies (is_signed_type to) (width_of_type to) z

pub returns-clause-number_of_type_kept : goal.returns-clause-number_of_type_kept
returns-clause-number_of_type_kept c = λ to z h. wrapped-inside (is_signed_type to) (width_of_type to) z h

pub returns-clause-number_of_type_held : goal.returns-clause-number_of_type_held
returns-clause-number_of_type_held c =
    λ to z h. reading-inside (is_signed (kind_of_type to)) (width (kind_of_type to)) z (in_range-kind_of_type to z h)
