-- Types as a module writes them, and the types that they are: each name replaced by the definition that it leads to.
use Rattle.std.specs.Prelude.{ℕ, ◌/◌, ◌%◌, ◌==◌, Bool, true, false, if◌then◌else◌, List, [], ◌∷◌, length}
use Rattle.std.specs.Prelude.{Option, Some, None, Result, Ok, Err}
use Rattle.std.specs.Option.{option_map, option_and_then}
use Rattle.ty_terms.specs.declared.names.TypeId.{TypeId}
use Rattle.ty_terms.specs.declared.ty.Primitive.TheVariants.{Void}
use Rattle.ty_terms.specs.declared.ty.Ty.{Ty}
use Rattle.ty_terms.specs.declared.ty.Ty.TheVariants.{Prim, Vector, ByRef, Var, MVar}
use Rattle.ty_terms.specs.declared.ty.Ty.TheOpen.{Ty-F}
use Rattle.ty_terms.specs.declared.ty.Ty.TheViews.{out-Ty}
use Rattle.ty_terms.specs.declared.ty.Ty.TheFolds.{fold-Ty}
use Rattle.ty_terms.specs.Subst.{has_variables_below}
use Rattle.md_sigs.specs.declared.fault.SigFault.{SigFault}
use Rattle.ty_names.specs.declared.cells.RowOf.{RowOf}
use Rattle.ty_names.specs.Modules.{World, tables_at, cell_at, blob_of}
use Rattle.ty_names.specs.Definitions.{generic_count}
use Rattle.ty_names.specs.References.{definition}
use Rattle.ty_load.specs.Primitives.{type_of}
use Rattle.md_sigs.specs.Signatures.{type_blob}

-- The definition that an index in a signature leads to (II.23.2.8): of TypeDef by the tag 0, of TypeRef by 1. A row of
-- TypeSpec has no place in one.
abbrev pub table_of_tag : ℕ → ℕ
table_of_tag tag = if tag == 0 then 0x02 else if tag == 1 then 0x01 else 0x1B

abbrev pub indexed : World → ℕ → ℕ → Option TypeId
indexed world number index = definition world number (table_of_tag (index % 4)) (index / 4)

-- a type gets as many arguments as it has parameters
abbrev pub instance : World → List Ty → TypeId → Option Ty
instance world args id =
    if generic_count (tables_at world id.module) 0x02 id.row == length args then Some (type_of world id args) else None

-- System.Void is a result alone
abbrev pub is_void_layer : {A : Type 0} → Ty-F A → Bool
is_void_layer (Ty-F.Prim Void) = true
is_void_layer _ = false

abbrev pub is_void : Ty → Bool
is_void ty = is_void_layer (out-Ty ty)

abbrev pub no_void : Option Ty → Option Ty
no_void found = option_and_then (λ ty. if is_void ty then None else Some ty) found

-- all of some types, if each is there
abbrev pub and_all : Option Ty → Option (List Ty) → Option (List Ty)
and_all None rest = None
and_all (Some ty) rest = option_map (λ types. ty ∷ types) rest

abbrev pub all_types : List (Option Ty) → Option (List Ty)
all_types [] = Some []
all_types (ty ∷ rest) = and_all (no_void ty) (all_types rest)

-- a type by its index and its arguments, if they are there; a vector; a managed pointer
abbrev pub named_with : World → ℕ → ℕ → Option (List Ty) → Option Ty
named_with world number index args =
    option_and_then (λ types. option_and_then (instance world types) (indexed world number index)) args

abbrev pub vector_of : Option Ty → Option Ty
vector_of element = option_map (λ ty. Vector ty) element

abbrev pub by_ref_of : Option Ty → Option Ty
by_ref_of target = option_map (λ ty. ByRef ty) target

-- one layer of a type, with what each inner type is in its place

abbrev pub resolve_step : World → ℕ → Ty-F (Option Ty) → Option Ty
resolve_step world number (Ty-F.Prim primitive) = Some (Prim primitive)
resolve_step world number (Ty-F.Named id args) = named_with world number id.row (all_types args)
resolve_step world number (Ty-F.Vector element) = vector_of (no_void element)
resolve_step world number (Ty-F.ByRef target) = by_ref_of (no_void target)
resolve_step world number (Ty-F.Var n) = Some (Var n)
resolve_step world number (Ty-F.MVar n) = Some (MVar n)
resolve_step world number Ty-F.Canon = None

-- the type that a module writes, which may be System.Void
abbrev pub resolved : World → ℕ → Ty → Option Ty
resolved world number = fold-Ty (Option Ty) (resolve_step world number)

-- a type with variables below two numbers alone
abbrev pub bounded : ℕ → ℕ → Option Ty → Option Ty
bounded owner method found =
    option_and_then (λ ty. if has_variables_below owner method ty then Some ty else None) found

-- A result, and any other type: in a type with so many parameters, and a method with so many.
abbrev pub resolved_result : World → ℕ → ℕ → ℕ → Ty → Option Ty
resolved_result world number owner method ty = bounded owner method (resolved world number ty)

abbrev pub resolved_type : World → ℕ → ℕ → ℕ → Ty → Option Ty
resolved_type world number owner method ty = no_void (resolved_result world number owner method ty)

abbrev pub type_if_read : World → ℕ → ℕ → ℕ → Result Ty SigFault → Option Ty
type_if_read world number owner method (Err fault) = None
type_if_read world number owner method (Ok ty) = resolved_type world number owner method ty

-- The type that an index of TypeDefOrRef leads to (II.24.2.6), in a type and a method with so many parameters.
abbrev pub type_at : World → ℕ → ℕ → ℕ → RowOf → Option Ty
type_at world number owner method index =
    if index.table == 0x1B
    then type_if_read world number owner method
    (type_blob number (blob_of (cell_at (tables_at world number) 0x1B index.row 0)))
    else no_void (option_and_then (instance world []) (definition world number index.table index.row))
