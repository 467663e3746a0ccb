use Rattle.std.proofs.Common.{◌≡◌, ◌≤◌, min, max, drop}
use Rattle.ty_terms.specs.Depth.{depth_of_all}
use Rattle.ty_terms.proofs.measure.+depth.Given as goal

abbrev pub invariant-depth_all-loop-ty : goal.invariant-depth_all-loop-ty
invariant-depth_all-loop-ty l =
    (l.greatest ≤ 4294967295)
    × (min (max l.greatest (depth_of_all (drop l.ty-index l.types))) 4294967295 ≡ min (depth_of_all l.types) 4294967295)
