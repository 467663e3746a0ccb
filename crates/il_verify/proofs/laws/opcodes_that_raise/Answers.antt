use Rattle.il_verify.proofs.Tables.{null, index, mismatch, cast, overflow, by_zero}
use Rattle.il_verify.proofs.laws.opcodes_that_raise.Goals as goal

pub returns-clause-null : goal.returns-clause-null
returns-clause-null c = null

pub returns-clause-index : goal.returns-clause-index
returns-clause-index c = index

pub returns-clause-mismatch : goal.returns-clause-mismatch
returns-clause-mismatch c = mismatch

pub returns-clause-cast : goal.returns-clause-cast
returns-clause-cast c = cast

pub returns-clause-overflow : goal.returns-clause-overflow
returns-clause-overflow c = overflow

pub returns-clause-zero : goal.returns-clause-zero
returns-clause-zero c = by_zero
