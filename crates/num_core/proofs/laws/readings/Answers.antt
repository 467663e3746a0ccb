use Rattle.num_core.proofs.WrapLaws.{sum-reading, difference-reading, product-reading, ltb-cast_unsigned}
use Rattle.num_core.specs.Integers.{is_signed, width}
use Rattle.std.proofs.Common.{lit≤}
use Rattle.std.specs.Int.{w32, w64}
use Rattle.num_core.proofs.laws.readings.Goals as goal

pub returns-clause-sum_of_held : goal.returns-clause-sum_of_held
returns-clause-sum_of_held c = λ kind a b f g. sum-reading (is_signed kind) (width kind) a b f g

pub returns-clause-difference_of_held : goal.returns-clause-difference_of_held
returns-clause-difference_of_held c = λ kind a b f g. difference-reading (is_signed kind) (width kind) a b f g

pub returns-clause-product_of_held : goal.returns-clause-product_of_held
returns-clause-product_of_held c = λ kind a b f g. product-reading (is_signed kind) (width kind) a b f g

pub returns-clause-unsigned_compare : goal.returns-clause-unsigned_compare
returns-clause-unsigned_compare c = λ a b f g. ltb-cast_unsigned w32 w64 a b (lit≤ tt) f g
