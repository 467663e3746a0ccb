-- Canonical types: what each form becomes, and that a canonical type is its own.
use Rattle.std.proofs.Common.{◌≡◌, refl, sym, ap, ◌∙◌, ℕ, Bool, true, false, cond, List, [], ◌∷◌, map}
use Rattle.ty_terms.specs.declared.names.MethodName.{MethodName}
use Rattle.ty_terms.specs.declared.names.TypeId.{TypeId}
use Rattle.ty_terms.specs.declared.ty.Primitive.{Primitive}
use Rattle.ty_terms.specs.declared.ty.Ty.{Ty}
use Rattle.ty_terms.specs.declared.ty.Ty.TheVariants.{Prim, Named, Vector, ByRef, Var, MVar, Canon, rolls-Prim}
use Rattle.ty_terms.specs.declared.ty.Ty.TheVariants.{rolls-Vector, rolls-ByRef, rolls-Var, rolls-MVar, rolls-Canon}
use Rattle.ty_terms.specs.Canon.{canonical, canonical_form, canon_step, canonical_argument, shared, is_reference_type}
use Rattle.ty_terms.specs.Canon.{is_reference_layer}
use Rattle.ty_terms.specs.Induction.{All, induction, fold-Prim, fold-Named, fold-Vector, fold-ByRef, fold-Var}
use Rattle.ty_terms.specs.Induction.{fold-MVar, fold-Canon, out-Named, out-Vector, out-ByRef, out-Canon}

module _ (values : List TypeId) where
  abbrev form : Ty → Ty
  form = canonical values

  canonical-Prim : (p : Primitive) → form (Prim p) ≡ Prim p
  canonical-Prim p = fold-Prim (canon_step values) p ∙ rolls-Prim p

  canonical-Vector : (element : Ty) → form (Vector element) ≡ Vector (form element)
  canonical-Vector element = fold-Vector (canon_step values) element ∙ rolls-Vector (form element)

  canonical-ByRef : (target : Ty) → form (ByRef target) ≡ ByRef (form target)
  canonical-ByRef target = fold-ByRef (canon_step values) target ∙ rolls-ByRef (form target)

  canonical-Var : (n : ℕ) → form (Var n) ≡ Var n
  canonical-Var n = fold-Var (canon_step values) n ∙ rolls-Var n

  canonical-MVar : (n : ℕ) → form (MVar n) ≡ MVar n
  canonical-MVar n = fold-MVar (canon_step values) n ∙ rolls-MVar n

  canonical-Canon : form Canon ≡ Canon
  canonical-Canon = fold-Canon (canon_step values) ∙ rolls-Canon

  -- a type and its canonical type are of one kind
  reference-canonical : (ty : Ty) → is_reference_type values (form ty) ≡ is_reference_type values ty
  reference-canonical = induction (λ ty. is_reference_type values (form ty) ≡ is_reference_type values ty) (record {
    primitive = λ p. ap (is_reference_type values) (canonical-Prim p);
    named = λ id args _.
        ap (is_reference_type values) (fold-Named (canon_step values) id args)
        ∙ ap (is_reference_layer values) (out-Named id (map (shared values) (map form args)))
        ∙ sym (ap (is_reference_layer values) (out-Named id args));
    vector = λ element _.
        ap (is_reference_type values) (canonical-Vector element)
        ∙ ap (is_reference_layer values) (out-Vector (form element))
        ∙ sym (ap (is_reference_layer values) (out-Vector element));
    by_ref = λ target _.
        ap (is_reference_type values) (canonical-ByRef target)
        ∙ ap (is_reference_layer values) (out-ByRef (form target))
        ∙ sym (ap (is_reference_layer values) (out-ByRef target));
    var = λ n. ap (is_reference_type values) (canonical-Var n);
    mvar = λ n. ap (is_reference_type values) (canonical-MVar n);
    canon = ap (is_reference_type values) canonical-Canon;
  })

  shared-canonical : (ty : Ty) → shared values (form ty) ≡ canonical_argument values ty
  shared-canonical ty = ap (λ is. cond is Canon (form ty)) (reference-canonical ty)

  shared_each : (args : List Ty) → map (shared values) (map form args) ≡ map (canonical_argument values) args
  shared_each [] = refl
  shared_each (ty ∷ args) = λ i. shared-canonical ty i ∷ shared_each args i

  pub canonical_named : (id : TypeId) (args : List Ty)
      → canonical values (Named id args) ≡ Named id (map (canonical_argument values) args)
  canonical_named id args = fold-Named (canon_step values) id args ∙ ap (Named id) (shared_each args)

  abbrev IsFixed : Ty → Type 0
  IsFixed ty = form (form ty) ≡ form ty

  argument_twice : (ty : Ty) → IsFixed ty → canonical_argument values (canonical_argument values ty)
      ≡ canonical_argument values ty
  argument_twice ty fixed = by (is_reference_type values ty) refl
    where
      by : (is : Bool) → is_reference_type values ty ≡ is
          → canonical_argument values (canonical_argument values ty) ≡ canonical_argument values ty
      by true e =
          let here : canonical_argument values ty ≡ Canon = ap (λ is. cond is Canon (form ty)) e in
          ap (canonical_argument values) here ∙ ap (λ is. cond is Canon (form Canon))
          (ap (is_reference_layer values) out-Canon) ∙ sym here
      by false e =
          let here : canonical_argument values ty ≡ form ty = ap (λ is. cond is Canon (form ty)) e in
          ap (canonical_argument values) here ∙ ap (λ is. cond is Canon (form (form ty))) (reference-canonical ty ∙ e)
          ∙ fixed ∙ sym here

  arguments_twice : (args : List Ty) → All IsFixed args
      → map (canonical_argument values) (map (canonical_argument values) args) ≡ map (canonical_argument values) args
  arguments_twice [] fixed = refl
  arguments_twice (ty ∷ args) fixed = λ i. argument_twice ty fixed.0 i ∷ arguments_twice args fixed.1 i

  pub canonical_twice : (ty : Ty) → canonical values (canonical values ty) ≡ canonical values ty
  canonical_twice = induction IsFixed (record {
    primitive = λ p. ap form (canonical-Prim p);
    named = λ id args fixed.
        ap form (canonical_named id args) ∙ canonical_named id (map (canonical_argument values) args)
        ∙ ap (Named id) (arguments_twice args fixed) ∙ sym (canonical_named id args);
    vector = λ element fixed. ap form (canonical-Vector element) ∙ canonical-Vector (form element) ∙ ap Vector fixed
        ∙ sym (canonical-Vector element);
    by_ref = λ target fixed. ap form (canonical-ByRef target) ∙ canonical-ByRef (form target) ∙ ap ByRef fixed
        ∙ sym (canonical-ByRef target);
    var = λ n. ap form (canonical-Var n);
    mvar = λ n. ap form (canonical-MVar n);
    canon = ap form canonical-Canon;
  })

  all_fixed : (types : List Ty) → All IsFixed types
  all_fixed [] = tt
  all_fixed (ty ∷ types) = (canonical_twice ty, all_fixed types)

  pub form_twice : (name : MethodName) → canonical_form values (canonical_form values name) ≡ canonical_form values name
  form_twice name =
      let owners = canonical_twice name.owner in
      let args = arguments_twice name.args (all_fixed name.args) in
      λ i. record { owner = owners i; method = name.method; args = args i }
