use Rattle.std.proofs.Common.{◌≡◌, take}
use Rattle.ty_terms.proofs.+copy.Given as goal

abbrev pub invariant-copy::copy_all-loop-ty : goal.invariant-copy::copy_all-loop-ty
invariant-copy::copy_all-loop-ty l = l.copies ≡ take l.ty-index l.types
