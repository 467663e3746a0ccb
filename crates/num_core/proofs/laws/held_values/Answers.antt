use Rattle.std.proofs.lemmas.Int.{SFits-int_wrap}
use Rattle.num_core.specs.Integers.{width, is_signed}
use Rattle.num_core.proofs.IntegerLaws.{reading-inside, int_wrap-reading, reading_lies, lies-bounds, checked-cases}
use Rattle.num_core.proofs.laws.held_values.Goals as goal

pub returns-clause-held_of_kind : goal.returns-clause-held_of_kind
returns-clause-held_of_kind c = λ kind z. SFits-int_wrap (width kind) z

pub returns-clause-number_of_held : goal.returns-clause-number_of_held
returns-clause-number_of_held c = λ kind z h. reading-inside (is_signed kind) (width kind) z h

pub returns-clause-held_of_number : goal.returns-clause-held_of_number
returns-clause-held_of_number c = λ kind a f. int_wrap-reading (is_signed kind) (width kind) a f

pub returns-clause-number_in_range : goal.returns-clause-number_in_range
returns-clause-number_in_range c = λ kind a f. reading_lies (is_signed kind) (width kind) a f

pub returns-clause-range_of_kind : goal.returns-clause-range_of_kind
returns-clause-range_of_kind c = λ kind z. lies-bounds (is_signed kind) (width kind) z

pub returns-clause-checked_of_range : goal.returns-clause-checked_of_range
returns-clause-checked_of_range c = λ kind z. checked-cases (is_signed kind) (width kind) z
