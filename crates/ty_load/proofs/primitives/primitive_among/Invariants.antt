use Rattle.std.proofs.Common.{◌≡◌, drop, find}
use Rattle.std.specs.Str.{bytes_eq}
use Rattle.ty_load.specs.Primitives.{name_of_primitive}
use Rattle.ty_load.proofs.primitives.primitive_among.Given as goal

-- what is left has the same
abbrev pub invariant-loop-primitive : goal.invariant-loop-primitive
invariant-loop-primitive l =
    find (λ primitive. bytes_eq l.name (name_of_primitive primitive)) (drop l.primitive-index l.primitives)
    ≡ find (λ primitive. bytes_eq l.name (name_of_primitive primitive)) l.primitives
