use Rattle.num_core.proofs.WrapLaws.{int_wrap-twice, int_wrap-narrower, int_wrap-sum, int_wrap-difference}
use Rattle.num_core.proofs.WrapLaws.{int_wrap-product}
use Rattle.std.proofs.Common.{lit≤}
use Rattle.std.specs.Int.{w32, w64}
use Rattle.num_core.proofs.laws.wrapping.Goals as goal

pub returns-clause-wrap_twice : goal.returns-clause-wrap_twice
returns-clause-wrap_twice c = λ w z. int_wrap-twice w z

pub returns-clause-word_of_double : goal.returns-clause-word_of_double
returns-clause-word_of_double c = λ z. int_wrap-narrower w32 w64 z (lit≤ tt)

pub returns-clause-wrapped_sum : goal.returns-clause-wrapped_sum
returns-clause-wrapped_sum c = λ w a b. int_wrap-sum w a b

pub returns-clause-wrapped_difference : goal.returns-clause-wrapped_difference
returns-clause-wrapped_difference c = λ w a b. int_wrap-difference w a b

pub returns-clause-wrapped_product : goal.returns-clause-wrapped_product
returns-clause-wrapped_product c = λ w a b. int_wrap-product w a b
