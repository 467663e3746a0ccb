-- What is told of a reader or a writer of std over one call.
use Rattle.std.proofs.Common.{◌≡◌, ℕ, List, Bool, true, false, Option, Some, None, IsSome, refl}
use Rattle.ilc_io.specs.Stream.{told_by}

-- what is told is known
pub told_known :
    (tells : Bool) (known : Option (List ℕ)) (bytes : List ℕ) → told_by tells known ≡ Some bytes → known ≡ Some bytes
told_known true known bytes e = e
told_known false known bytes e = cc

-- what is known stays known
pub known_after :
    (f : List ℕ → List ℕ) (old new : Option (List ℕ)) → IsSome old →
    ((bytes : List ℕ) → old ≡ Some bytes → new ≡ Some (f bytes)) → IsSome new
known_after f (Some bytes) new is goes = rw (goes bytes refl) refl
known_after f None new is goes = cc
