use Rattle.std.proofs.Common.{◌≡◌, ◌++◌, map, take}
use Rattle.ty_terms.specs.Canon.{is_reference_type}
use Rattle.il_stacks.specs.Effects.{behind}
use Rattle.il_stacks.proofs.flow.add_ways.Given as goal

abbrev pub invariant-loop-way : goal.invariant-loop-way
invariant-loop-way l =
    l.facts.items ≡ l.fn.facts.items
    ++ map (λ to. (to, behind (is_reference_type l.values) l.step.effect l.known)) (take l.way-index l.step.ways)
