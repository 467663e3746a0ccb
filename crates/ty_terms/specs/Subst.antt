-- Substitution: the arguments of the owner for `Var`, and those of the method for `MVar` (ECMA-335 II.9.2).
use Rattle.std.specs.Prelude.{ℕ, List, Bool, true, nat_lt, IsTrue}
use Rattle.std.specs.List.{list_all}
use Rattle.std.specs.Prelude.{slice_index_or}
use Rattle.ty_terms.specs.declared.ty.Ty.{Ty}
use Rattle.ty_terms.specs.declared.ty.Ty.TheVariants.{Var, MVar}
use Rattle.ty_terms.specs.declared.ty.Ty.TheOpen.{Ty-F}
use Rattle.ty_terms.specs.declared.ty.Ty.TheViews.{roll-Ty}
use Rattle.ty_terms.specs.declared.ty.Ty.TheFolds.{fold-Ty}

-- one layer of a type, with what stands for each inner type in its place
abbrev pub subst_step : List Ty → List Ty → Ty-F Ty → Ty
subst_step owner method (Ty-F.Var number) = slice_index_or owner number (Var number)
subst_step owner method (Ty-F.MVar number) = slice_index_or method number (MVar number)
subst_step owner method layer = roll-Ty layer

-- the type with each variable replaced by its argument; a variable past its list stays
abbrev pub substituted : List Ty → List Ty → Ty → Ty
substituted owner method = fold-Ty Ty (subst_step owner method)

-- one layer of a type, with the answer for each inner type in its place
abbrev pub within_step : ℕ → ℕ → Ty-F Bool → Bool
within_step owner method (Ty-F.Var number) = nat_lt number owner
within_step owner method (Ty-F.MVar number) = nat_lt number method
within_step owner method (Ty-F.Named id args) = list_all (λ arg. arg) args
within_step owner method (Ty-F.Vector element) = element
within_step owner method (Ty-F.ByRef target) = target
within_step owner method _ = true

-- whether each `Var` is below the one number and each `MVar` below the other
abbrev pub has_variables_below : ℕ → ℕ → Ty → Bool
has_variables_below owner method = fold-Ty Bool (within_step owner method)

-- a type without variables
abbrev pub IsClosed : Ty → Type 0
IsClosed ty = IsTrue (has_variables_below 0 0 ty)
