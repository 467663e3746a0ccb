-- Types of a signature, one after another.
use Rattle.std.proofs.Common.{◌≡◌, ◌∙◌, ◌<◌, ◌≤◌, ◌+◌, ◌++◌, ◌∷◌, [], ℕ, List, Option, Some, None, refl, ap, sym}
use Rattle.std.proofs.Common.{append_assoc}
use Rattle.std.proofs.Common.{drop, get_or, length}
use Rattle.std.proofs.lemmas.List.{append-nil, drop_all, drop_more}
use Rattle.ty_terms.specs.declared.ty.Ty.{Ty}
use Rattle.ty_names.specs.Modules.{World}
use Rattle.ty_load.specs.Members.{signature_types}
use Rattle.ty_load.specs.Types.{and_all, resolved_type}

-- types in front of others, if those are there
abbrev pub prefixed : List Ty → Option (List Ty) → Option (List Ty)
prefixed done None = None
prefixed done (Some rest) = Some (done ++ rest)

prefixed_one : (done : List Ty) (ty : Ty) (r : Option (List Ty))
    → prefixed done (and_all (Some ty) r) ≡ prefixed (done ++ ty ∷ []) r
prefixed_one done ty None = refl
prefixed_one done ty (Some rest) = ap (λ (l : List Ty). Some l) (sym (append_assoc done (ty ∷ []) rest))

module _ (world : World) (number owner method : ℕ) (types : List Ty) where
  -- what is read, and the types from one on, make the whole
  abbrev pub Makes : List Ty → ℕ → Type 0
  Makes done at =
      prefixed done (signature_types world number owner method (drop at types))
      ≡ signature_types world number owner method types

  here : (done : List Ty) (at : ℕ) (x : Ty) → at < length types → x ≡ get_or types at x → Makes done at
      → prefixed done (and_all (resolved_type world number owner method x)
      (signature_types world number owner method (drop (at + 1) types)))
      ≡ signature_types world number owner method types
  here done at x within is so_far =
      ap (λ (y : Ty). prefixed done (and_all (resolved_type world number owner method y)
      (signature_types world number owner method (drop (at + 1) types)))) is
      ∙ ap (λ (l : List Ty). prefixed done (signature_types world number owner method l))
      (sym (drop_more types at x within))
      ∙ so_far

  pub one_param : (done more : List Ty) (at : ℕ) (x ty : Ty) → at < length types → x ≡ get_or types at x
      → resolved_type world number owner method x ≡ Some ty → more ≡ done ++ ty ∷ [] → Makes done at
      → Makes more (at + 1)
  one_param done more at x ty within is found pushed so_far =
      ap (λ (l : List Ty). prefixed l (signature_types world number owner method (drop (at + 1) types))) pushed
      ∙ sym (prefixed_one done ty (signature_types world number owner method (drop (at + 1) types)))
      ∙ ap (λ (t : Option Ty). prefixed done (and_all t
      (signature_types world number owner method (drop (at + 1) types)))) (sym found)
      ∙ here done at x within is so_far

  pub no_param : (done : List Ty) (at : ℕ) (x : Ty) → at < length types → x ≡ get_or types at x
      → resolved_type world number owner method x ≡ None → Makes done at
      → None ≡ signature_types world number owner method types
  no_param done at x within is none so_far =
      sym (ap (λ (t : Option Ty). prefixed done (and_all t
      (signature_types world number owner method (drop (at + 1) types)))) none)
      ∙ here done at x within is so_far

  pub all_params : (done : List Ty) (at : ℕ) → length types ≤ at → Makes done at
      → Some done ≡ signature_types world number owner method types
  all_params done at all so_far =
      ap (λ (l : List Ty). Some l) (sym (append-nil done))
      ∙ ap (λ (l : List Ty). prefixed done (signature_types world number owner method l)) (sym (drop_all at types all))
      ∙ so_far
