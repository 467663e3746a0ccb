use Rattle.std.proofs.Common.{◌≡◌, ◌++◌, take}
use Rattle.std.specs.List.{flat_map}
use Rattle.rv_gen.specs.Calling.{gives_argument}
use Rattle.rv_gen.proofs.calling.give_arguments.Given as goal

abbrev pub invariant-loop-argument : goal.invariant-loop-argument
invariant-loop-argument l =
    l.lines ≡ l.fn.lines ++ flat_map (gives_argument l.vars) (take l.argument-index l.arguments)
