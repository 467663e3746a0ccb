use Rattle.std.proofs.Common.{◌≡◌, ◌++◌, take}
use Rattle.il_stacks.proofs.sets.add_types.Given as goal

abbrev pub invariant-loop-ty : goal.invariant-loop-ty
invariant-loop-ty l = l.list ≡ l.fn.list ++ take l.ty-index l.types
