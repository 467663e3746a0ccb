use Rattle.lir_core.proofs.Programs.{bound, call, caught, cleared, laid_out, left, moved, not_moved, overflow}
use Rattle.lir_core.proofs.Programs.{raised_again, sum, uncaught, unwritten}
use Rattle.lir_core.proofs.laws.small_programs.Goals as goal

pub returns-clause-sum : goal.returns-clause-sum
returns-clause-sum c = sum

pub returns-clause-call : goal.returns-clause-call
returns-clause-call c = call

pub returns-clause-bound : goal.returns-clause-bound
returns-clause-bound c = bound

pub returns-clause-overflow : goal.returns-clause-overflow
returns-clause-overflow c = overflow

pub returns-clause-unwritten : goal.returns-clause-unwritten
returns-clause-unwritten c = unwritten

pub returns-clause-caught : goal.returns-clause-caught
returns-clause-caught c = caught

pub returns-clause-uncaught : goal.returns-clause-uncaught
returns-clause-uncaught c = uncaught

pub returns-clause-left : goal.returns-clause-left
returns-clause-left c = left

pub returns-clause-cleared : goal.returns-clause-cleared
returns-clause-cleared c = cleared

pub returns-clause-moved : goal.returns-clause-moved
returns-clause-moved c = moved

pub returns-clause-not_moved : goal.returns-clause-not_moved
returns-clause-not_moved c = not_moved

pub returns-clause-raised_again : goal.returns-clause-raised_again
returns-clause-raised_again c = raised_again

pub returns-clause-laid_out : goal.returns-clause-laid_out
returns-clause-laid_out c = laid_out
