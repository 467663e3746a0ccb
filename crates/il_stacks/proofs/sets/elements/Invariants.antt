use Rattle.std.proofs.Common.{◌≡◌, drop}
use Rattle.std.specs.List.{filter_map}
use Rattle.il_stacks.specs.Types.{element_of, elements_of, union}
use Rattle.il_stacks.proofs.sets.elements.Given as goal

abbrev pub invariant-loop-ty : goal.invariant-loop-ty
invariant-loop-ty l = elements_of l.types ≡ union (filter_map element_of (drop l.ty-index l.types)) l.set
