-- The depth after a substitution.
use Rattle.std.proofs.Common.{◌≡◌, ap, ◌∙◌, ℕ, ◌+◌, ◌≤◌, max, List, [], ◌∷◌, ◌++◌, map, zero, suc, slice_index_or}
use Rattle.std.proofs.Common.{arith}
use Rattle.ty_terms.specs.declared.ty.Primitive.{Primitive}
use Rattle.ty_terms.specs.declared.names.TypeId.{TypeId}
use Rattle.ty_terms.specs.declared.ty.Ty.{Ty}
use Rattle.ty_terms.specs.declared.ty.Ty.TheVariants.{Prim, Named, Vector, ByRef, Var, MVar, Canon}
use Rattle.ty_terms.specs.Depth.{depth_of, depth_of_all, depth_step}
use Rattle.ty_terms.specs.Subst.{substituted}
use Rattle.ty_terms.specs.Induction.{All, induction, fold-Prim, fold-Named, fold-Vector, fold-ByRef, fold-Var}
use Rattle.ty_terms.specs.Induction.{fold-MVar, fold-Canon}
use Rattle.ty_terms.proofs.SubstLaws.{substituted-Prim, substituted-Named, substituted-Vector, substituted-ByRef}
use Rattle.ty_terms.proofs.SubstLaws.{substituted-Var, substituted-MVar, substituted-Canon}

depth-Prim : (p : Primitive) → depth_of (Prim p) ≡ 1
depth-Prim = fold-Prim depth_step

depth-Named : (id : TypeId) (args : List Ty) → depth_of (Named id args) ≡ 1 + depth_of_all args
depth-Named = fold-Named depth_step

depth-Vector : (element : Ty) → depth_of (Vector element) ≡ 1 + depth_of element
depth-Vector = fold-Vector depth_step

depth-ByRef : (target : Ty) → depth_of (ByRef target) ≡ 1 + depth_of target
depth-ByRef = fold-ByRef depth_step

depth-Var : (n : ℕ) → depth_of (Var n) ≡ 1
depth-Var = fold-Var depth_step

depth-MVar : (n : ℕ) → depth_of (MVar n) ≡ 1
depth-MVar = fold-MVar depth_step

depth-Canon : depth_of Canon ≡ 1
depth-Canon = fold-Canon depth_step

abbrev IsPositive : Ty → Type 0
IsPositive ty = 1 ≤ depth_of ty

depth_positive : (ty : Ty) → IsPositive ty
depth_positive = induction IsPositive (record {
  primitive = λ p. omega (arith, depth-Prim p);
  named = λ id args _. omega (arith, depth-Named id args);
  vector = λ element _. omega (arith, depth-Vector element);
  by_ref = λ target _. omega (arith, depth-ByRef target);
  var = λ n. omega (arith, depth-Var n);
  mvar = λ n. omega (arith, depth-MVar n);
  canon = omega (arith, depth-Canon);
})

-- an item is no deeper than the deepest, and what stands in its place past the end has depth 1
item_depth : (types : List Ty) (n : ℕ) (d : Ty) → depth_of d ≡ 1
    → depth_of (slice_index_or types n d) ≤ max 1 (depth_of_all types)
item_depth [] n d one = omega (arith, one)
item_depth (ty ∷ types) zero d one = omega arith
item_depth (ty ∷ types) (suc n) d one = omega (arith, item_depth types n d one)

all-append : (xs ys : List Ty) → depth_of_all (xs ++ ys) ≡ max (depth_of_all xs) (depth_of_all ys)
all-append [] ys = omega arith
all-append (x ∷ xs) ys = omega (arith, all-append xs ys)

module _ (owner method : List Ty) where
  abbrev to : Ty → Ty
  to = substituted owner method

  abbrev most : ℕ
  most = max 1 (depth_of_all (owner ++ method))

  abbrev IsBounded : Ty → Type 0
  IsBounded ty = (depth_of ty ≤ depth_of (to ty)) × (depth_of (to ty) + 1 ≤ depth_of ty + most)

  abbrev AreBounded : List Ty → Type 0
  AreBounded args =
      (depth_of_all args ≤ depth_of_all (map to args)) × (depth_of_all (map to args) + 1 ≤ depth_of_all args + most)

  all_bounded : (args : List Ty) → All IsBounded args → AreBounded args
  all_bounded [] each = (omega arith, omega arith)
  all_bounded (ty ∷ args) each =
      let rest = all_bounded args each.1 in
      (omega (arith, each.0.0, each.0.1, rest.0, rest.1), omega (arith, each.0.0, each.0.1, rest.0, rest.1))

  same_depth : (ty : Ty) → to ty ≡ ty → IsBounded ty
  same_depth ty e = (omega (arith, ap depth_of e), omega (arith, ap depth_of e))

  pub depth_bounded : (ty : Ty) → IsBounded ty
  depth_bounded = induction IsBounded (record {
    primitive = λ p. same_depth (Prim p) (substituted-Prim owner method p);
    named = λ id args each.
        let rest = all_bounded args each in
        let before = depth-Named id args in
        let after = ap depth_of (substituted-Named owner method id args) ∙ depth-Named id (map to args) in
        (omega (arith, before, after, rest.0, rest.1), omega (arith, before, after, rest.0, rest.1));
    vector = λ element one.
        let before = depth-Vector element in
        let after = ap depth_of (substituted-Vector owner method element) ∙ depth-Vector (to element) in
        (omega (arith, before, after, one.0, one.1), omega (arith, before, after, one.0, one.1));
    by_ref = λ target one.
        let before = depth-ByRef target in
        let after = ap depth_of (substituted-ByRef owner method target) ∙ depth-ByRef (to target) in
        (omega (arith, before, after, one.0, one.1), omega (arith, before, after, one.0, one.1));
    var = λ n.
        let before = depth-Var n in
        let after = ap depth_of (substituted-Var owner method n) in
        let low = depth_positive (to (Var n)) in
        let high = item_depth owner n (Var n) before in
        let both = all-append owner method in
        (omega (arith, before, low), omega (arith, before, after, high, both));
    mvar = λ n.
        let before = depth-MVar n in
        let after = ap depth_of (substituted-MVar owner method n) in
        let low = depth_positive (to (MVar n)) in
        let high = item_depth method n (MVar n) before in
        let both = all-append owner method in
        (omega (arith, before, low), omega (arith, before, after, high, both));
    canon = same_depth Canon (substituted-Canon owner method);
  })
