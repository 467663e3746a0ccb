-- The members of a type definition, and whether they are as their rows say.
use Rattle.std.specs.Prelude.{ℕ, ◌==◌, ◌&&◌, ◌||◌, Bool, true, false, not, if◌then◌else◌, List, [], ◌∷◌, find}
use Rattle.std.specs.Prelude.{Option, Some, None, Result, Ok}
use Rattle.std.specs.Option.{option_map, option_and_then}
use Rattle.std.specs.Str.{bytes_eq}
use Rattle.std.specs.declared.cmp.Ordering.{Ordering}
use Rattle.std.specs.declared.cmp.Ordering.TheVariants.{Less, Equal, Greater}
use Rattle.std.specs.Cmp.Lexicographic.{slice_cmp}
use Rattle.ty_terms.specs.declared.names.TypeId.{TypeId}
use Rattle.ty_terms.specs.declared.ty.Ty.{Ty}
use Rattle.ty_terms.specs.Order.{order}
use Rattle.md_tables.specs.declared.module.Table.{Table}
use Rattle.md_sigs.specs.declared.fault.SigFault.{SigFault}
use Rattle.md_sigs.specs.declared.sig.Sig.{Sig}
use Rattle.md_sigs.specs.declared.sig.MethodSig.{MethodSig}
use Rattle.ty_names.specs.Modules.{World, core_of, tables_at}
use Rattle.ty_names.specs.Definitions.{type_flags, has_flag, is_interface, generic_count, fields_of, methods_of}
use Rattle.ty_names.specs.Definitions.{field_name, field_blob, is_static_field, is_literal}
use Rattle.ty_names.specs.Definitions.{method_name, method_blob, is_static}
use Rattle.md_sigs.specs.Signatures.{signature}
use Rattle.ty_load.specs.Types.{resolved_type, resolved_result, and_all}
use Rattle.ty_load.specs.Bases.{parameters}

-- ---- equal types

abbrev pub is_equal : Ordering → Bool
is_equal Less = false
is_equal Equal = true
is_equal Greater = false

abbrev pub same_type : Ty → Ty → Bool
same_type a b = is_equal (order a b)

abbrev pub same_types : List Ty → List Ty → Bool
same_types a b = is_equal (slice_cmp order a b)

-- ---- fields

abbrev pub is_explicit : List Table → ℕ → Bool
is_explicit tables row = has_flag (type_flags tables row) 0x10

-- A field that programs can use: no literal, no instance field of an interface, and none of a type that says where its
-- fields lie.
abbrev pub is_usable_field : List Table → ℕ → ℕ → Bool
is_usable_field tables owner row =
    not (is_literal tables row)
    && (is_static_field tables row || not (is_interface tables owner || is_explicit tables owner))

-- ---- methods

abbrev pub signature_types : World → ℕ → ℕ → ℕ → List Ty → Option (List Ty)
signature_types world number owner method [] = Some []
signature_types world number owner method (ty ∷ rest) =
    and_all (resolved_type world number owner method ty) (signature_types world number owner method rest)

abbrev pub sig_with : MethodSig → Ty → List Ty → MethodSig
sig_with sig result params =
    record { instance = sig.instance; generic = sig.generic; params = params; result = result }

-- a signature of a method with the types that its names lead to, in a type with so many parameters
abbrev pub resolved_sig : World → ℕ → ℕ → MethodSig → Option MethodSig
resolved_sig world number owner sig =
    option_and_then (λ result. option_map (sig_with sig result)
    (signature_types world number owner sig.generic sig.params))
    (resolved_result world number owner sig.generic sig.result)

abbrev pub method_sig_if : World → TypeId → Result Sig SigFault → Option MethodSig
method_sig_if world id (Ok (Sig.Method sig)) = resolved_sig world id.module (parameters world id) sig
method_sig_if world id _ = None

abbrev pub suits_row : List Table → ℕ → MethodSig → Bool
suits_row tables row sig =
    sig.generic == generic_count tables 0x06 row
    && (if sig.instance then not (is_static tables row) else is_static tables row)

abbrev pub sig_if_suits : List Table → ℕ → MethodSig → Option MethodSig
sig_if_suits tables row sig = if suits_row tables row sig then Some sig else None

-- The signature of a method, in its owner's variables and its own; nothing where it has no reading, where a type in it
-- leads to nothing, or where its flags or its generic parameters say otherwise.
abbrev pub method_sig : World → TypeId → ℕ → Option MethodSig
method_sig world id row =
    option_and_then (sig_if_suits (tables_at world id.module) row)
    (method_sig_if world id (signature id.module (method_blob (tables_at world id.module) row)))

abbrev pub same_bool : Bool → Bool → Bool
same_bool true b = b
same_bool false b = not b

abbrev pub same_sig : MethodSig → MethodSig → Bool
same_sig a b =
    same_bool a.instance b.instance && a.generic == b.generic && same_types a.params b.params
    && same_type a.result b.result

abbrev pub if_there : {A : Type 0} → (A → Bool) → Option A → Bool
if_there test None = false
if_there test (Some item) = test item

-- the first method of a type definition that has this name and signature, and its first such field
abbrev pub method_of : World → TypeId → List ℕ → MethodSig → Option ℕ
method_of world id name sig =
    let tables = tables_at world id.module in
    find (λ row. bytes_eq (method_name tables row) name && if_there (same_sig sig) (method_sig world id row))
    (methods_of tables id.row)

abbrev pub field_sig_if : World → TypeId → Result Sig SigFault → Option Ty
field_sig_if world id (Ok (Sig.Field ty)) = resolved_type world id.module (parameters world id) 0 ty
field_sig_if world id _ = None

abbrev pub field_sig : World → TypeId → ℕ → Option Ty
field_sig world id row = field_sig_if world id (signature id.module (field_blob (tables_at world id.module) row))

abbrev pub field_of : World → TypeId → List ℕ → Ty → Option ℕ
field_of world id name ty =
    let tables = tables_at world id.module in
    find (λ row. bytes_eq (field_name tables row) name && if_there (same_type ty) (field_sig world id row))
    (fields_of tables id.row)

-- a member of the core whose name begins with `$` can't be named from outside
abbrev pub is_hidden : List ℕ → Bool
is_hidden [] = false
is_hidden (byte ∷ rest) = byte == 0x24

abbrev pub may_name : World → ℕ → TypeId → List ℕ → Bool
may_name world number id name = number == core_of world || not (id.module == core_of world) || not (is_hidden name)
