-- Substitution: its equation at each form, and its laws.
use Rattle.std.proofs.Common.{◌≡◌, refl, sym, ap, ◌∙◌, ℕ, Bool, true, false, ◌&&◌, nat_lt, IsTrue, List, [], ◌∷◌, map}
use Rattle.std.proofs.Common.{length, slice_index_or, zero, suc, ltb-true, lt-ltb, arith}
use Rattle.std.proofs.lemmas.Bool.{false≢true}
use Rattle.std.proofs.lemmas.List.{get_or-map}
use Rattle.std.specs.List.{list_all}
use Rattle.ty_terms.specs.declared.names.TypeId.{TypeId}
use Rattle.ty_terms.specs.declared.ty.Primitive.{Primitive}
use Rattle.ty_terms.specs.declared.ty.Ty.{Ty}
use Rattle.ty_terms.specs.declared.ty.Ty.TheVariants.{Prim, Named, Vector, ByRef, Var, MVar, Canon, rolls-Prim}
use Rattle.ty_terms.specs.declared.ty.Ty.TheVariants.{rolls-Named, rolls-Vector, rolls-ByRef, rolls-Canon}
use Rattle.ty_terms.specs.Subst.{substituted, subst_step, within_step, has_variables_below, IsClosed}
use Rattle.ty_terms.specs.Induction.{All, induction, fold-Prim, fold-Named, fold-Vector, fold-ByRef, fold-Var}
use Rattle.ty_terms.specs.Induction.{fold-MVar, fold-Canon}

list_all-map : {A : Type 0} (test : A → Bool) (xs : List A) → list_all (λ b. b) (map test xs) ≡ list_all test xs
list_all-map test [] = refl
list_all-map test (x ∷ xs) = ap (λ b. test x && b) (list_all-map test xs)

module _ (o m : ℕ) where
  pub below_named : (id : TypeId) (args : List Ty)
      → has_variables_below o m (Named id args) ≡ list_all (has_variables_below o m) args
  below_named id args = fold-Named (within_step o m) id args ∙ list_all-map (has_variables_below o m) args

  below-Vector : (element : Ty) → has_variables_below o m (Vector element) ≡ has_variables_below o m element
  below-Vector = fold-Vector (within_step o m)

  below-ByRef : (target : Ty) → has_variables_below o m (ByRef target) ≡ has_variables_below o m target
  below-ByRef = fold-ByRef (within_step o m)

  below-Var : (n : ℕ) → has_variables_below o m (Var n) ≡ nat_lt n o
  below-Var = fold-Var (within_step o m)

  below-MVar : (n : ℕ) → has_variables_below o m (MVar n) ≡ nat_lt n m
  below-MVar = fold-MVar (within_step o m)

module _ (owner method : List Ty) where
  abbrev to : Ty → Ty
  to = substituted owner method

  pub substituted-Prim : (p : Primitive) → to (Prim p) ≡ Prim p
  substituted-Prim p = fold-Prim (subst_step owner method) p ∙ rolls-Prim p

  pub substituted-Named : (id : TypeId) (args : List Ty) → to (Named id args) ≡ Named id (map to args)
  substituted-Named id args = fold-Named (subst_step owner method) id args ∙ rolls-Named id (map to args)

  pub substituted-Vector : (element : Ty) → to (Vector element) ≡ Vector (to element)
  substituted-Vector element = fold-Vector (subst_step owner method) element ∙ rolls-Vector (to element)

  pub substituted-ByRef : (target : Ty) → to (ByRef target) ≡ ByRef (to target)
  substituted-ByRef target = fold-ByRef (subst_step owner method) target ∙ rolls-ByRef (to target)

  pub substituted-Var : (n : ℕ) → to (Var n) ≡ slice_index_or owner n (Var n)
  substituted-Var = fold-Var (subst_step owner method)

  pub substituted-MVar : (n : ℕ) → to (MVar n) ≡ slice_index_or method n (MVar n)
  substituted-MVar = fold-MVar (subst_step owner method)

  pub substituted-Canon : to Canon ≡ Canon
  substituted-Canon = fold-Canon (subst_step owner method) ∙ rolls-Canon

-- the laws
and_first : (a b : Bool) → IsTrue (a && b) → IsTrue a
and_first true b h = refl
and_first false b h = h

and_second : (a b : Bool) → IsTrue (a && b) → IsTrue b
and_second true b h = h
and_second false b h = absurd (false≢true h)

none_below : (n : ℕ) → IsTrue (nat_lt n 0) → ⊥
none_below n h = omega (arith, ltb-true n 0 h)

module _ (owner method : List Ty) where
  abbrev LeftAlone : Ty → Type 0
  LeftAlone ty = IsClosed ty → substituted owner method ty ≡ ty

  all_left_alone : (args : List Ty) → All LeftAlone args → IsTrue (list_all (has_variables_below 0 0) args)
      → map (substituted owner method) args ≡ args
  all_left_alone [] each closed = refl
  all_left_alone (ty ∷ args) each closed =
      let first = each.0 (and_first (has_variables_below 0 0 ty) (list_all (has_variables_below 0 0) args) closed) in
      let rest =
      all_left_alone args each.1 (and_second (has_variables_below 0 0 ty) (list_all (has_variables_below 0 0) args)
      closed) in
      λ i. first i ∷ rest i

  pub closed_left_alone : (ty : Ty) → LeftAlone ty
  closed_left_alone = induction LeftAlone (record {
    primitive = λ p closed. substituted-Prim owner method p;
    named = λ id args each closed.
        substituted-Named owner method id args ∙ ap (Named id)
        (all_left_alone args each (sym (below_named 0 0 id args) ∙ closed));
    vector = λ element same closed. substituted-Vector owner method element
        ∙ ap Vector (same (sym (below-Vector 0 0 element) ∙ closed));
    by_ref = λ target same closed. substituted-ByRef owner method target
        ∙ ap ByRef (same (sym (below-ByRef 0 0 target) ∙ closed));
    var = λ n closed. absurd (none_below n (sym (below-Var 0 0 n) ∙ closed));
    mvar = λ n closed. absurd (none_below n (sym (below-MVar 0 0 n) ∙ closed));
    canon = λ closed. substituted-Canon owner method;
  })

-- the item of a list at a place below its length, after a map
index-map : (f : Ty → Ty) (types : List Ty) (n : ℕ) (x y : Ty) → IsTrue (nat_lt n (length types))
    → f (slice_index_or types n x) ≡ slice_index_or (map f types) n y
index-map f types n x y h = sym (get_or-map f types n x y (ltb-true n (length types) h))

index-all : (test : Ty → Bool) (types : List Ty) (n : ℕ) (d : Ty) → IsTrue (list_all test types)
    → IsTrue (nat_lt n (length types)) → IsTrue (test (slice_index_or types n d))
index-all test [] n d all h = absurd (none_below n h)
index-all test (ty ∷ types) zero d all h = and_first (test ty) (list_all test types) all
index-all test (ty ∷ types) (suc n) d all h =
    index-all test types n d (and_second (test ty) (list_all test types) all)
    (lt-ltb n (length types) (omega (arith, ltb-true (suc n) (length (ty ∷ types)) h)))

-- the variables of what the arguments are put into
module _ (owner method : List Ty) (n m : ℕ) (owner_below : IsTrue (list_all (has_variables_below n m) owner))
    (method_below : IsTrue (list_all (has_variables_below n m) method)) where
  abbrev before : Ty → Bool
  before = has_variables_below (length owner) (length method)

  abbrev after : Ty → Bool
  after = has_variables_below n m

  abbrev put : Ty → Ty
  put = substituted owner method

  abbrev IsPut : Ty → Type 0
  IsPut ty = IsTrue (before ty) → IsTrue (after (put ty))

  and_both : (a b : Bool) → IsTrue a → IsTrue b → IsTrue (a && b)
  and_both true b h k = k
  and_both false b h k = h

  all_put : (args : List Ty) → All IsPut args → IsTrue (list_all before args) → IsTrue (list_all after (map put args))
  all_put [] each below = refl
  all_put (ty ∷ args) each below =
      and_both (after (put ty)) (list_all after (map put args))
      (each.0 (and_first (before ty) (list_all before args) below))
      (all_put args each.1 (and_second (before ty) (list_all before args) below))

  pub variables_put : (ty : Ty) → IsPut ty
  variables_put = induction IsPut (record {
    primitive = λ p below. ap after (substituted-Prim owner method p) ∙ fold-Prim (within_step n m) p;
    named = λ id args each below.
        ap after (substituted-Named owner method id args) ∙ below_named n m id (map put args)
        ∙ all_put args each (sym (below_named (length owner) (length method) id args) ∙ below);
    vector = λ element one below.
        ap after (substituted-Vector owner method element) ∙ below-Vector n m (put element)
        ∙ one (sym (below-Vector (length owner) (length method) element) ∙ below);
    by_ref = λ target one below.
        ap after (substituted-ByRef owner method target) ∙ below-ByRef n m (put target)
        ∙ one (sym (below-ByRef (length owner) (length method) target) ∙ below);
    var = λ k below.
        ap after (substituted-Var owner method k)
        ∙ index-all after owner k (Var k) owner_below (sym (below-Var (length owner) (length method) k) ∙ below);
    mvar = λ k below.
        ap after (substituted-MVar owner method k)
        ∙ index-all after method k (MVar k) method_below (sym (below-MVar (length owner) (length method) k) ∙ below);
    canon = λ below. ap after (substituted-Canon owner method) ∙ fold-Canon (within_step n m);
  })

-- the lists of a composition
module _ (outer_owner outer_method owner method : List Ty) where
  abbrev outer : Ty → Ty
  outer = substituted outer_owner outer_method

  abbrev Composes : Ty → Type 0
  Composes ty =
      IsTrue (has_variables_below (length owner) (length method) ty)
      → outer (substituted owner method ty) ≡ substituted (map outer owner) (map outer method) ty

  all_compose : (args : List Ty) → All Composes args
      → IsTrue (list_all (has_variables_below (length owner) (length method)) args)
      → map outer (map (substituted owner method) args) ≡ map (substituted (map outer owner) (map outer method)) args
  all_compose [] each below = refl
  all_compose (ty ∷ args) each below =
      let test = has_variables_below (length owner) (length method) in
      let first = each.0 (and_first (test ty) (list_all test args) below) in
      let rest = all_compose args each.1 (and_second (test ty) (list_all test args) below) in
      λ i. first i ∷ rest i

  pub subst_composes : (ty : Ty) → Composes ty
  subst_composes = induction Composes (record {
    primitive = λ p below.
        ap outer (substituted-Prim owner method p) ∙ substituted-Prim outer_owner outer_method p
        ∙ sym (substituted-Prim (map outer owner) (map outer method) p);
    named = λ id args each below.
        ap outer (substituted-Named owner method id args)
        ∙ substituted-Named outer_owner outer_method id (map (substituted owner method) args)
        ∙ ap (Named id) (all_compose args each (sym (below_named (length owner) (length method) id args) ∙ below))
        ∙ sym (substituted-Named (map outer owner) (map outer method) id args);
    vector = λ element same below.
        ap outer (substituted-Vector owner method element)
        ∙ substituted-Vector outer_owner outer_method (substituted owner method element)
        ∙ ap Vector (same (sym (below-Vector (length owner) (length method) element) ∙ below))
        ∙ sym (substituted-Vector (map outer owner) (map outer method) element);
    by_ref = λ target same below.
        ap outer (substituted-ByRef owner method target)
        ∙ substituted-ByRef outer_owner outer_method (substituted owner method target)
        ∙ ap ByRef (same (sym (below-ByRef (length owner) (length method) target) ∙ below))
        ∙ sym (substituted-ByRef (map outer owner) (map outer method) target);
    var = λ n below.
        ap outer (substituted-Var owner method n)
        ∙ index-map outer owner n (Var n) (Var n) (sym (below-Var (length owner) (length method) n) ∙ below)
        ∙ sym (substituted-Var (map outer owner) (map outer method) n);
    mvar = λ n below.
        ap outer (substituted-MVar owner method n)
        ∙ index-map outer method n (MVar n) (MVar n) (sym (below-MVar (length owner) (length method) n) ∙ below)
        ∙ sym (substituted-MVar (map outer owner) (map outer method) n);
    canon = λ below.
        ap outer (substituted-Canon owner method) ∙ substituted-Canon outer_owner outer_method
        ∙ sym (substituted-Canon (map outer owner) (map outer method));
  })
