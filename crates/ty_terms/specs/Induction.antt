-- Induction over types, case by case, and the equations of what is defined by one layer.
use Rattle.std.proofs.Common.{◌≡◌, sym, ap, subst, ◌∙◌, ℕ, List, [], ◌∷◌, map}
use Rattle.ty_terms.specs.declared.names.TypeId.{TypeId}
use Rattle.ty_terms.specs.declared.ty.Primitive.{Primitive}
use Rattle.ty_terms.specs.declared.ty.Ty.{Ty}
use Rattle.ty_terms.specs.declared.ty.Ty.TheVariants.{Prim, Named, Vector, ByRef, Var, MVar, Canon, rolls-Prim}
use Rattle.ty_terms.specs.declared.ty.Ty.TheVariants.{rolls-Named, rolls-Vector, rolls-ByRef, rolls-Var, rolls-MVar}
use Rattle.ty_terms.specs.declared.ty.Ty.TheVariants.{rolls-Canon}
use Rattle.ty_terms.specs.declared.ty.Ty.TheOpen.{Ty-F}
use Rattle.ty_terms.specs.declared.ty.Ty.TheViews.{roll-Ty, out-Ty, the_lemmas}
use Rattle.ty_terms.specs.declared.ty.Ty.TheFolds.{fold-Ty, fold-roll-Ty, ind-Ty, map-Ty}

abbrev pub All : {A : Type 0} → (A → Type 0) → List A → Type 0
All P [] = Unit {0}
All P (x ∷ xs) = P x × All P xs

-- what an induction over types has to show
pub record Cases (P : Ty → Type 0) : Type 0 where
  pub primitive : (p : Primitive) → P (Prim p)
  pub named : (id : TypeId) (args : List Ty) → All P args → P (Named id args)
  pub vector : (element : Ty) → P element → P (Vector element)
  pub by_ref : (target : Ty) → P target → P (ByRef target)
  pub var : (number : ℕ) → P (Var number)
  pub mvar : (number : ℕ) → P (MVar number)
  pub canon : P Canon

all_proofs : {P : Ty → Type 0} → (args : List ((ty : Ty) × P ty)) → All P (map (λ e. e.0) args)
all_proofs [] = tt
all_proofs (x ∷ xs) = (x.1, all_proofs xs)

abbrev Proved : (Ty → Type 0) → Type 0
Proved P = (ty : Ty) × P ty

at_layer : (P : Ty → Type 0) → Cases P → (y : Ty-F (Proved P)) → P (roll-Ty (map-Ty (Proved P) Ty (λ e. e.0) y))
at_layer P c (Ty-F.Prim p) = subst P (sym (rolls-Prim p)) (c.primitive p)
at_layer P c (Ty-F.Named id args) =
    subst P (sym (rolls-Named id (map (λ e. e.0) args))) (c.named id (map (λ e. e.0) args) (all_proofs args))
at_layer P c (Ty-F.Vector e) = subst P (sym (rolls-Vector e.0)) (c.vector e.0 e.1)
at_layer P c (Ty-F.ByRef e) = subst P (sym (rolls-ByRef e.0)) (c.by_ref e.0 e.1)
at_layer P c (Ty-F.Var n) = subst P (sym (rolls-Var n)) (c.var n)
at_layer P c (Ty-F.MVar n) = subst P (sym (rolls-MVar n)) (c.mvar n)
at_layer P c Ty-F.Canon = subst P (sym rolls-Canon) c.canon

pub induction : (P : Ty → Type 0) → Cases P → (ty : Ty) → P ty
induction P c = ind-Ty P (λ x y is. subst (λ z. P (roll-Ty z)) is (at_layer P c y))

-- what a fold gives at each form
module _ {A : Type 0} (step : Ty-F A → A) where
  pub fold-Named : (id : TypeId) (args : List Ty) → fold-Ty A step (Named id args)
      ≡ step (Ty-F.Named id (map (fold-Ty A step) args))
  fold-Named id args = ap (fold-Ty A step) (sym (rolls-Named id args)) ∙ fold-roll-Ty A step (Ty-F.Named id args)

  pub fold-Vector : (element : Ty) → fold-Ty A step (Vector element) ≡ step (Ty-F.Vector (fold-Ty A step element))
  fold-Vector element = ap (fold-Ty A step) (sym (rolls-Vector element)) ∙ fold-roll-Ty A step (Ty-F.Vector element)

  pub fold-ByRef : (target : Ty) → fold-Ty A step (ByRef target) ≡ step (Ty-F.ByRef (fold-Ty A step target))
  fold-ByRef target = ap (fold-Ty A step) (sym (rolls-ByRef target)) ∙ fold-roll-Ty A step (Ty-F.ByRef target)

  pub fold-Prim : (p : Primitive) → fold-Ty A step (Prim p) ≡ step (Ty-F.Prim p)
  fold-Prim p = ap (fold-Ty A step) (sym (rolls-Prim p)) ∙ fold-roll-Ty A step (Ty-F.Prim p)

  pub fold-Var : (n : ℕ) → fold-Ty A step (Var n) ≡ step (Ty-F.Var n)
  fold-Var n = ap (fold-Ty A step) (sym (rolls-Var n)) ∙ fold-roll-Ty A step (Ty-F.Var n)

  pub fold-MVar : (n : ℕ) → fold-Ty A step (MVar n) ≡ step (Ty-F.MVar n)
  fold-MVar n = ap (fold-Ty A step) (sym (rolls-MVar n)) ∙ fold-roll-Ty A step (Ty-F.MVar n)

  pub fold-Canon : fold-Ty A step Canon ≡ step Ty-F.Canon
  fold-Canon = ap (fold-Ty A step) (sym rolls-Canon) ∙ fold-roll-Ty A step Ty-F.Canon

-- one layer of each form
pub out-Prim : (p : Primitive) → out-Ty (Prim p) ≡ Ty-F.Prim p
out-Prim p = search the_lemmas

pub out-Named : (id : TypeId) (args : List Ty) → out-Ty (Named id args) ≡ Ty-F.Named id args
out-Named id args = search the_lemmas

pub out-Vector : (element : Ty) → out-Ty (Vector element) ≡ Ty-F.Vector element
out-Vector element = search the_lemmas

pub out-ByRef : (target : Ty) → out-Ty (ByRef target) ≡ Ty-F.ByRef target
out-ByRef target = search the_lemmas

pub out-Var : (n : ℕ) → out-Ty (Var n) ≡ Ty-F.Var n
out-Var n = search the_lemmas

pub out-MVar : (n : ℕ) → out-Ty (MVar n) ≡ Ty-F.MVar n
out-MVar n = search the_lemmas

pub out-Canon : out-Ty Canon ≡ Ty-F.Canon
out-Canon = search the_lemmas
