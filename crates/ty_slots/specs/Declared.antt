-- Methods as types declare them, and the nearest of a name and a signature: ECMA-335 I.8.10.4, II.9.8, II.22.26.
use Rattle.std.specs.Prelude.{ℕ, zero, suc, ◌+◌, ◌==◌, ◌&&◌, Bool, if◌then◌else◌, List, [], ◌∷◌, filter, length, map}
use Rattle.std.specs.Prelude.{Option, Some, None, Result, Ok}
use Rattle.std.specs.Option.{option_and_then}
use Rattle.std.specs.Str.{bytes_eq}
use Rattle.md_sigs.specs.declared.sig.MethodSig.{MethodSig}
use Rattle.ty_terms.specs.declared.names.MethodId.{MethodId}
use Rattle.ty_terms.specs.declared.names.MethodName.{MethodName}
use Rattle.ty_terms.specs.declared.names.TypeId.{TypeId}
use Rattle.ty_terms.specs.declared.ty.Ty.{Ty}
use Rattle.ty_terms.specs.Subst.{substituted}
use Rattle.ty_names.specs.Modules.{World, tables_at}
use Rattle.ty_names.specs.Definitions.{methods_of, method_name, is_virtual, is_public_method}
use Rattle.ty_load.specs.declared.fault.ResolveFault.{ResolveFault}
use Rattle.ty_load.specs.Primitives.{definition_of, type_of}
use Rattle.ty_load.specs.Bases.{has_definition}
use Rattle.ty_load.specs.Cycles.{all_ids}
use Rattle.ty_load.specs.Members.{same_sig, same_type, sig_with}
use Rattle.ty_load.specs.Tokens.{and_then, only_if}
use Rattle.ty_load.specs.Walks.{own_variables, base_type}
use Rattle.ty_load.specs.Finding.{sig_by, sig_on, method_variables, or_above}

-- what a type is by a definition of its own; a vector declares nothing
abbrev pub own_definition : World → Ty → Option TypeId
own_definition world ty = option_and_then (only_if (has_definition ty)) (definition_of world ty)

-- the type of a definition, in its own variables
abbrev pub own_type : World → TypeId → Ty
own_type world id = type_of world id (own_variables world id)

-- ---- methods of a type

-- a method that a type declares, with the type's arguments in its signature
pub record Declared : Type 0 where
  pub owner : Ty
  pub id : MethodId
  pub sig : MethodSig

abbrev pub declared_with : Ty → TypeId → ℕ → MethodSig → Declared
declared_with ty id row sig =
    record { owner = ty; id = record { «module» = id.module; row = row }; sig = sig_on ty sig }

-- a row of a type's definition, or the fault of its signature
abbrev pub declared_by : World → Ty → TypeId → ℕ → Result Declared ResolveFault
declared_by world ty id row = and_then (sig_by world id row) (λ sig. Ok (declared_with ty id row sig))

abbrev pub name_of : World → Declared → List ℕ
name_of world method = method_name (tables_at world method.id.module) method.id.row

abbrev pub same_declared : Declared → Declared → Bool
same_declared a b = same_type a.owner b.owner && a.id.module == b.id.module && a.id.row == b.id.row

abbrev pub with_arguments : List Ty → MethodSig → MethodSig
with_arguments args sig =
    let on : Ty → Ty = substituted args (method_variables sig.generic) in
    sig_with sig (on sig.result) (map on sig.params)

-- a method of a type in the variables of a definition, with arguments in their place
abbrev pub on_arguments : List Ty → Declared → Declared
on_arguments args method =
    record { owner = substituted args [] method.owner; id = method.id; sig = with_arguments args method.sig }

-- the method that a name names, or nothing where its owner has no definition
abbrev pub declared_if : World → MethodName → Option TypeId → Result (Option Declared) ResolveFault
declared_if world name None = Ok None
declared_if world name (Some id) =
    and_then (declared_by world name.owner id name.method.row) (λ method. Ok (Some method))

abbrev pub declared_named : World → MethodName → Result (Option Declared) ResolveFault
declared_named world name = declared_if world name (definition_of world name.owner)

-- ---- walks: what is found of a type, else of the nearest class above it that has it

abbrev pub found_or : {A : Type 0} → Result (Option A) ResolveFault → Option A → Result (Option A) ResolveFault
found_or rest None = rest
found_or rest (Some found) = Ok (Some found)

abbrev pub walk_within : {A : Type 0} → ℕ → World → (Ty → Result (Option A) ResolveFault) → Ty
    → Result (Option A) ResolveFault
walk_within zero world here ty = Ok None
walk_within (suc left) world here ty =
    and_then (here ty) (found_or (and_then (base_type world ty) (or_above (walk_within left world here))))

-- From a type upward. Above a type are no more classes than there are definitions.
abbrev pub walk : {A : Type 0} → World → (Ty → Result (Option A) ResolveFault) → Ty → Result (Option A) ResolveFault
walk world here ty = walk_within (length (all_ids world) + 1) world here ty

-- from the base of a type upward
abbrev pub walk_above : {A : Type 0} → World → (Ty → Result (Option A) ResolveFault) → Ty
    → Result (Option A) ResolveFault
walk_above world here ty = and_then (base_type world ty) (or_above (walk world here))

-- ---- virtual methods of one name: no signature of another is read

abbrev pub virtual_rows : World → TypeId → List ℕ
virtual_rows world id =
    filter (is_virtual (tables_at world id.module)) (methods_of (tables_at world id.module) id.row)

abbrev pub rows_named : World → List ℕ → TypeId → List ℕ
rows_named world name id =
    filter (λ row. bytes_eq (method_name (tables_at world id.module) row) name) (virtual_rows world id)

abbrev pub public_rows_named : World → List ℕ → TypeId → List ℕ
public_rows_named world name id = filter (is_public_method (tables_at world id.module)) (rows_named world name id)

abbrev pub this_or : Bool → Declared → Result (Option Declared) ResolveFault → Result (Option Declared) ResolveFault
this_or passes method rest = if passes then Ok (Some method) else rest

-- the first of some rows of a type that passes a test, or the first fault
abbrev pub first_declared : World → (Declared → Result Bool ResolveFault) → Ty → TypeId → List ℕ
    → Result (Option Declared) ResolveFault
first_declared world test ty id [] = Ok None
first_declared world test ty id (row ∷ rows) =
    and_then (declared_by world ty id row) (λ method. and_then (test method) (λ passes.
    this_or passes method (first_declared world test ty id rows)))

abbrev pub first_among : World → (Declared → Result Bool ResolveFault) → (TypeId → List ℕ) → Ty → Option TypeId
    → Result (Option Declared) ResolveFault
first_among world test rows ty None = Ok None
first_among world test rows ty (Some id) = first_declared world test ty id (rows id)

-- the first virtual method that a type declares with this name and signature
abbrev pub virtual_like : World → List ℕ → MethodSig → Ty → Result (Option Declared) ResolveFault
virtual_like world name sig ty =
    first_among world (λ method. Ok (same_sig sig method.sig)) (rows_named world name) ty (own_definition world ty)

-- the first public one
abbrev pub public_like : World → List ℕ → MethodSig → Ty → Result (Option Declared) ResolveFault
public_like world name sig ty =
    first_among world (λ method. Ok (same_sig sig method.sig)) (public_rows_named world name) ty
    (own_definition world ty)
