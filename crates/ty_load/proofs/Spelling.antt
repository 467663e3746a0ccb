-- Types as they are written, one after another.
use Rattle.std.proofs.Common.{◌≡◌, ◌∙◌, ◌<◌, ◌≤◌, ◌++◌, ◌∷◌, [], ℕ, suc, List, map, Option, Some, None, refl, ap, sym}
use Rattle.std.proofs.Common.{append_assoc, append-nil, drop, drop-cons, drop_of_length-le, get_or, length}
use Rattle.ty_terms.specs.declared.names.TypeId.{TypeId}
use Rattle.ty_terms.specs.declared.ty.Ty.{Ty}
use Rattle.ty_terms.specs.declared.ty.Ty.TheVariants.{Named, Vector, ByRef}
use Rattle.ty_terms.specs.Induction.{fold-Named, fold-Vector, fold-ByRef}
use Rattle.ty_names.specs.Modules.{World}
use Rattle.ty_load.specs.Types.{all_types, and_all, named_with, no_void, resolved, resolve_step, vector_of, by_ref_of}

module _ (world : World) (number : ℕ) where
  pub resolved_named : (id : TypeId) (args : List Ty)
      → resolved world number (Named id args)
      ≡ named_with world number id.row (all_types (map (resolved world number) args))
  resolved_named id args = fold-Named (resolve_step world number) id args

  pub resolved-Vector : (element : Ty) → resolved world number (Vector element)
      ≡ vector_of (no_void (resolved world number element))
  resolved-Vector element = fold-Vector (resolve_step world number) element

  pub resolved-ByRef : (target : Ty) → resolved world number (ByRef target)
      ≡ by_ref_of (no_void (resolved world number target))
  resolved-ByRef target = fold-ByRef (resolve_step world number) target

-- types in front of others, if those are there
abbrev pub prefixed : List Ty → Option (List Ty) → Option (List Ty)
prefixed done None = None
prefixed done (Some rest) = Some (done ++ rest)

pub prefixed-none : (r : Option (List Ty)) → prefixed [] r ≡ r
prefixed-none None = refl
prefixed-none (Some rest) = refl

prefixed-one : (done : List Ty) (ty : Ty) (r : Option (List Ty))
    → prefixed done (and_all (Some ty) r) ≡ prefixed (done ++ ty ∷ []) r
prefixed-one done ty None = refl
prefixed-one done ty (Some rest) = ap (λ (l : List Ty). Some l) (sym (append_assoc done (ty ∷ []) rest))

module _ (f : Ty → Option Ty) (whole : Option (List Ty)) (types done : List Ty) (at : ℕ) where
  -- what was read, and what is left, make the whole
  abbrev pub Makes : List Ty → ℕ → Type 0
  Makes read from = prefixed read (all_types (map f (drop from types))) ≡ whole

  module _ (x : Ty) (within : at < length types) (is : x ≡ get_or types at x) (so_far : Makes done at) where
    here : prefixed done (and_all (no_void (f x)) (all_types (map f (drop (suc at) types)))) ≡ whole
    here =
        ap (λ (y : Ty). prefixed done (and_all (no_void (f y)) (all_types (map f (drop (suc at) types))))) is
        ∙ ap (λ (l : List Ty). prefixed done (all_types (map f l))) (sym (drop-cons types at x within)) ∙ so_far

    pub one_more : (ty : Ty) (more : List Ty) (next : ℕ) → no_void (f x) ≡ Some ty → more ≡ done ++ ty ∷ []
        → next ≡ suc at → Makes more next
    one_more ty more next h pushed step =
        (λ i. prefixed (pushed i) (all_types (map f (drop (step i) types))))
        ∙ sym (prefixed-one done ty (all_types (map f (drop (suc at) types))))
        ∙ ap (λ (t : Option Ty). prefixed done (and_all t (all_types (map f (drop (suc at) types))))) (sym h) ∙ here

    pub not_one_more : no_void (f x) ≡ None → None ≡ whole
    not_one_more h =
        sym (ap (λ (t : Option Ty). prefixed done (and_all t (all_types (map f (drop (suc at) types))))) h) ∙ here

  pub all_there : length types ≤ at → Makes done at → Some done ≡ whole
  all_there h so_far =
      ap (λ (l : List Ty). Some l) (sym (append-nil done))
      ∙ ap (λ (l : List Ty). prefixed done (all_types (map f l))) (sym (drop_of_length-le types h)) ∙ so_far
