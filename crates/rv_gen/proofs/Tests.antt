-- What tests of values say of the words that hold them, and which branches are taken.
use Rattle.std.proofs.Common.{◌≡◌, refl, ℕ, ℤ, Bool, true, false, not, ◌==◌, int_lt}
use Rattle.std.proofs.Common.{nat_lt}
use Rattle.num_core.specs.Run.{Streams}
use Rattle.rv_step.specs.Machine.{MachineState, branches, effect, register, signed_value}
use Rattle.rv_lines.specs.Holds.{holds}
use Rattle.rv_gen.specs.Placing.{branch, opposite}
use Rattle.rv_lines.specs.declared.line.Condition.{Condition}

pub taken : (condition : Condition) (x y : ℕ) (d : ℤ) (m : MachineState) (streams : Streams)
    → effect (branch condition x y d) m streams
    ≡ branches m (holds condition (register m x) (register m y)) d streams
taken Condition.Equal x y d m s = refl
taken Condition.NotEqual x y d m s = refl
taken Condition.Less x y d m s = refl
taken Condition.NotLess x y d m s = refl
taken Condition.LessUnsigned x y d m s = refl
taken Condition.NotLessUnsigned x y d m s = refl

twice : (t : Bool) → t ≡ not (not t)
twice true = refl
twice false = refl

pub not_taken : (condition : Condition) (p q : ℕ) → holds (opposite condition) p q ≡ not (holds condition p q)
not_taken Condition.Equal p q = refl
not_taken Condition.NotEqual p q = twice (p == q)
not_taken Condition.Less p q = refl
not_taken Condition.NotLess p q = twice (int_lt (signed_value p) (signed_value q))
not_taken Condition.LessUnsigned p q = refl
not_taken Condition.NotLessUnsigned p q = twice (nat_lt p q)
