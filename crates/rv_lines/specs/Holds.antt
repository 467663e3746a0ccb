-- When a branch is taken.
use Rattle.std.specs.Prelude.{ℕ, Bool, not, ◌==◌, nat_lt, int_lt}
use Rattle.rv_step.specs.Machine.{signed_value}
use Rattle.rv_lines.specs.declared.line.Condition.{Condition}
use Rattle.rv_lines.specs.declared.line.Condition.TheVariants.{Equal, NotEqual, Less, NotLess, LessUnsigned}
use Rattle.rv_lines.specs.declared.line.Condition.TheVariants.{NotLessUnsigned}

-- whether a condition holds of the words of two registers
abbrev pub holds : Condition → ℕ → ℕ → Bool
holds Equal p q = p == q
holds NotEqual p q = not (p == q)
holds Less p q = int_lt (signed_value p) (signed_value q)
holds NotLess p q = not (int_lt (signed_value p) (signed_value q))
holds LessUnsigned p q = nat_lt p q
holds NotLessUnsigned p q = not (nat_lt p q)
