use Rattle.std.proofs.Common.{◌≡◌, drop, map}
use Rattle.ty_load.specs.Types.{all_types, resolved}
use Rattle.ty_load.proofs.Spelling.{prefixed}
use Rattle.ty_load.proofs.written.+resolved.Given as goal

-- what was read, and what is left, make the whole
abbrev pub invariant-all_resolved-loop-ty : goal.invariant-all_resolved-loop-ty
invariant-all_resolved-loop-ty l =
    prefixed l.done (all_types (map (resolved l.names l.module) (drop l.ty-index l.types)))
    ≡ all_types (map (resolved l.names l.module) l.types)
