use Rattle.num_core.proofs.WrapLaws.{shift_amount-lt, int_shr-is}
use Rattle.std.proofs.lemmas.Nat.{and_mask}
use Rattle.std.specs.Int.{w64, cast_unsigned}
use Rattle.std.proofs.Common.{sym}
use Rattle.num_core.proofs.laws.shifts.Goals as goal

pub returns-clause-shift_amount_bound : goal.returns-clause-shift_amount_bound
returns-clause-shift_amount_bound c = λ kind amount. shift_amount-lt kind amount

pub returns-clause-shift_amount_of_word : goal.returns-clause-shift_amount_of_word
returns-clause-shift_amount_of_word c = λ amount. and_mask (cast_unsigned w64 amount) 5

pub returns-clause-shift_amount_of_double : goal.returns-clause-shift_amount_of_double
returns-clause-shift_amount_of_double c = λ amount. and_mask (cast_unsigned w64 amount) 6

pub returns-clause-shift_with_sign : goal.returns-clause-shift_with_sign
returns-clause-shift_with_sign c = λ kind a k. sym (int_shr-is a k)
