use Rattle.std.proofs.Common.{◌≡◌, drop}
use Rattle.ty_load.specs.Members.{signature_types}
use Rattle.ty_members.proofs.Prefixed.{prefixed}
use Rattle.ty_members.proofs.signatures.signature_types.Given as goal

-- those so far, in front of what is left
abbrev pub invariant-loop-ty : goal.invariant-loop-ty
invariant-loop-ty l =
    signature_types l.names l.module l.owner l.method l.types
    ≡ prefixed l.done (signature_types l.names l.module l.owner l.method (drop l.ty-index l.types))
