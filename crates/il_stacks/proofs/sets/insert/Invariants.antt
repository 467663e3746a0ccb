use Rattle.std.proofs.Common.{◌≡◌, ◌++◌, drop}
use Rattle.il_stacks.specs.Types.{with_type}
use Rattle.il_stacks.proofs.sets.insert.Given as goal

-- all in front comes before the type
abbrev pub invariant-loop-i : goal.invariant-loop-i
invariant-loop-i l = with_type l.ty l.types ≡ l.set ++ with_type l.ty (drop l.i l.types)
