use Rattle.std.proofs.Common.{◌≡◌, take, map}
use Rattle.ty_terms.specs.Canon.{canonical_argument}
use Rattle.ty_terms.proofs.canonical.+canon.Given as goal

abbrev pub invariant-canon_arguments-loop-arg : goal.invariant-canon_arguments-loop-arg
invariant-canon_arguments-loop-arg l = l.done ≡ map (canonical_argument l.values) (take l.arg-index l.args)
