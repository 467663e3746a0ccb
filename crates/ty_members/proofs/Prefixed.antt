-- Types that are looked up one after another: those so far in front of what the rest leads to.
use Rattle.std.proofs.Common.{◌≡◌, ◌∙◌, ◌++◌, ◌∷◌, [], ℕ, List, Option, Some, None, refl, ap, sym, append_assoc}
use Rattle.ty_terms.specs.declared.ty.Ty.{Ty}
use Rattle.ty_names.specs.Modules.{World}
use Rattle.ty_load.specs.Types.{and_all, resolved_type}
use Rattle.ty_load.specs.Members.{signature_types}

abbrev pub prefixed : List Ty → Option (List Ty) → Option (List Ty)
prefixed done None = None
prefixed done (Some rest) = Some (done ++ rest)

pub prefixed_none : (r : Option (List Ty)) → prefixed [] r ≡ r
prefixed_none None = refl
prefixed_none (Some rest) = refl

prefixed_one : (done : List Ty) (ty : Ty) (r : Option (List Ty))
    → prefixed done (and_all (Some ty) r) ≡ prefixed (done ++ ty ∷ []) r
prefixed_one done ty None = refl
prefixed_one done ty (Some rest) = ap (λ (l : List Ty). Some l) (sym (append_assoc done (ty ∷ []) rest))

module _ (world : World) (number owner method : ℕ) where
  pub one_more : (done : List Ty) (x ty : Ty) (rest : List Ty) → resolved_type world number owner method x ≡ Some ty
      → prefixed done (signature_types world number owner method (x ∷ rest))
      ≡ prefixed (done ++ ty ∷ []) (signature_types world number owner method rest)
  one_more done x ty rest h =
      ap (λ (t : Option Ty). prefixed done (and_all t (signature_types world number owner method rest))) h
      ∙ prefixed_one done ty (signature_types world number owner method rest)

  pub one_missing : (done : List Ty) (x : Ty) (rest : List Ty) → resolved_type world number owner method x ≡ None
      → prefixed done (signature_types world number owner method (x ∷ rest)) ≡ None
  one_missing done x rest h =
      ap (λ (t : Option Ty). prefixed done (and_all t (signature_types world number owner method rest))) h
