use Rattle.std.proofs.Common.{◌≡◌, drop}
use Rattle.il_stacks.specs.Types.{union}
use Rattle.il_stacks.proofs.sets.unite.Given as goal

abbrev pub invariant-loop-ty : goal.invariant-loop-ty
invariant-loop-ty l = union l.types l.others ≡ union (drop l.ty-index l.types) l.set
