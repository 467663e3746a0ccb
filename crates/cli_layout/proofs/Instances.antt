-- A type with arguments in place of its variables takes what the type takes where the arguments take what they take.
use Rattle.std.proofs.Common.{◌≡◌, ◌∙◌, ℕ, zero, suc, List, [], ◌∷◌, map, refl, sym, ap, ap₂}
use Rattle.std.specs.Prelude.{if◌then◌else◌, slice_index_or}
use Rattle.ty_terms.specs.declared.names.TypeId.{TypeId}
use Rattle.ty_terms.specs.declared.ty.Ty.{Ty}
use Rattle.ty_terms.specs.declared.ty.Ty.TheVariants.{Prim, Named, Var, MVar, rolls-Prim}
use Rattle.ty_terms.specs.declared.ty.Ty.TheVariants.{rolls-Named, rolls-Vector, rolls-ByRef, rolls-Canon}
use Rattle.ty_terms.specs.declared.ty.Ty.TheOpen.{Ty-F}
use Rattle.ty_terms.specs.Subst.{substituted, subst_step}
use Rattle.ty_terms.specs.Induction.{All, induction, fold-Prim, fold-Named, fold-Vector, fold-ByRef, fold-Var}
use Rattle.ty_terms.specs.Induction.{fold-MVar, fold-Canon}
use Rattle.ty_names.specs.Modules.{World}
use Rattle.ty_load.specs.Bases.{is_value_type}
use Rattle.cli_layout.specs.declared.extent.Extent.{Extent}
use Rattle.cli_layout.specs.declared.extent.Extent.TheVariants.{Known}
use Rattle.cli_layout.specs.Extents.{extent_of, extent_step, extent_with, most_within, reference}
use Rattle.cli_layout.specs.Extents.{value_within}

-- what stands at a place of a list, where each item is changed
at_place : (change : Ty → Extent) (types : List Ty) (n : ℕ) (past : Ty) (other : Extent) → change past ≡ other
    → change (slice_index_or types n past) ≡ slice_index_or (map change types) n other
at_place change [] n past other is = is
at_place change (ty ∷ types) zero past other is = refl
at_place change (ty ∷ types) (suc n) past other is = at_place change types n past other is

module _ (world : World) (args : List Ty) where
  abbrev own : Ty → Extent
  own = extent_with world []

  abbrev given : List Extent
  given = map own args

  abbrev inner : Ty → Extent
  inner = extent_with world given

  abbrev placed : Ty → Ty
  placed = substituted args []

  abbrev own_step : Ty-F Extent → Extent
  own_step = extent_step (value_within (most_within world) world) world []

  abbrev inner_step : Ty-F Extent → Extent
  inner_step = extent_step (value_within (most_within world) world) world given

  abbrev Same : Ty → Type 0
  Same ty = own (placed ty) ≡ inner ty

  each : (types : List Ty) → All Same types → map own (map placed types) ≡ map inner types
  each [] all = refl
  each (ty ∷ types) all = ap₂ (λ e es. e ∷ es) all.0 (each types all.1)

  abbrev value : TypeId → List Extent → Extent
  value id extents =
      if is_value_type world id then value_within (most_within world) world id extents else Known reference

  of_named : (id : TypeId) (types : List Ty) → All Same types → Same (Named id types)
  of_named id types all =
      ap own (fold-Named (subst_step args []) id types ∙ rolls-Named id (map placed types))
      ∙ fold-Named own_step id (map placed types)
      ∙ ap (value id) (each types all)
      ∙ sym (fold-Named inner_step id types)

  of_var : (n : ℕ) → Same (Var n)
  of_var n =
      ap own (fold-Var (subst_step args []) n)
      ∙ at_place own args n (Var n) (Known reference) (fold-Var own_step n)
      ∙ sym (fold-Var inner_step n)

  of_mvar : (n : ℕ) → Same (MVar n)
  of_mvar n = ap own (fold-MVar (subst_step args []) n) ∙ fold-MVar own_step n ∙ sym (fold-MVar inner_step n)

  same : (ty : Ty) → Same ty
  same =
      induction Same (record {
        primitive = λ p.
            ap own (fold-Prim (subst_step args []) p ∙ rolls-Prim p) ∙ fold-Prim own_step p ∙ sym (fold-Prim
            inner_step p);
        named = of_named;
        vector = λ element is.
            ap own (fold-Vector (subst_step args []) element ∙ rolls-Vector (placed element))
            ∙ fold-Vector own_step (placed element) ∙ sym (fold-Vector inner_step element);
        by_ref = λ target is.
            ap own (fold-ByRef (subst_step args []) target ∙ rolls-ByRef (placed target))
            ∙ fold-ByRef own_step (placed target) ∙ sym (fold-ByRef inner_step target);
        var = of_var;
        mvar = of_mvar;
        canon =
            ap own (fold-Canon (subst_step args []) ∙ rolls-Canon) ∙ fold-Canon own_step ∙ sym (fold-Canon inner_step);
      })

pub of_instance : (world : World) (args : List Ty) (ty : Ty)
    → extent_of world (substituted args [] ty) ≡ extent_with world (map (extent_of world) args) ty
unfolding extent_of
of_instance world args ty = same world args ty
