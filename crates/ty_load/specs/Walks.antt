-- Walks from a type upward: its base and its interfaces as types, with the first fault of the walk.
use Rattle.std.specs.Prelude.{ℕ, zero, suc, ◌+◌, ◌*◌, ◌^◌, ◌==◌, ◌&&◌, ◌||◌, Bool, true, false, not, if◌then◌else◌}
use Rattle.std.specs.Prelude.{List, [], ◌∷◌, length, map, Option, Some, None, Result, Ok, Err}
use Rattle.std.specs.List.{range_with_len}
use Rattle.std.specs.Option.{option_map}
use Rattle.ty_terms.specs.declared.names.TypeId.{TypeId}
use Rattle.ty_terms.specs.declared.ty.Primitive.TheVariants.{Void, Object}
use Rattle.ty_terms.specs.declared.ty.Ty.{Ty}
use Rattle.ty_terms.specs.declared.ty.Ty.TheVariants.{Var}
use Rattle.ty_terms.specs.declared.ty.Ty.TheOpen.{Ty-F}
use Rattle.ty_terms.specs.declared.ty.Ty.TheViews.{out-Ty}
use Rattle.ty_terms.specs.Canon.{is_reference_layer}
use Rattle.ty_terms.specs.Depth.{depth_of}
use Rattle.ty_terms.specs.Subst.{substituted}
use Rattle.ty_names.specs.declared.cells.RowOf.{RowOf}
use Rattle.ty_names.specs.Modules.{World, tables_at}
use Rattle.ty_names.specs.Definitions.{type_extends}
use Rattle.ty_load.specs.declared.fault.ResolveFault.{ResolveFault}
use Rattle.ty_load.specs.Primitives.{type_of, definition_of}
use Rattle.ty_load.specs.Bases.{parameters, may_extend, is_interface_id, is_value_type, kept_if, interface_indexes}
use Rattle.ty_load.specs.Cycles.{all_ids}
use Rattle.ty_load.specs.Members.{same_type}
use Rattle.ty_load.specs.Refusals.{refused_name}
use Rattle.ty_load.specs.Tokens.{and_then, or_unresolved, type_by}

-- ---- one step upward

abbrev pub own_variables : World → TypeId → List Ty
own_variables world id = map (λ n. Var n) (range_with_len 0 (parameters world id))

abbrev pub index_name : World → ℕ → RowOf → List ℕ
index_name world number index = refused_name world number (index.table * 2 ^ 24 + index.row)

-- a type that a definition names, if it passes a test
abbrev pub named_if : (TypeId → Bool) → World → TypeId → RowOf → Result Ty ResolveFault
named_if test world id index =
    let name = index_name world id.module index in
    and_then (type_by world id.module name (own_variables world id) [] index) (λ ty.
    or_unresolved name (kept_if test world ty))

-- the base of a definition, in its own variables
abbrev pub base_by : World → TypeId → Result (Option Ty) ResolveFault
base_by world id =
    let index = type_extends (tables_at world id.module) id.row in
    if index.row == 0 then Ok None
    else and_then (named_if (may_extend world id) world id index) (λ base. Ok (Some base))

abbrev pub interfaces_by : World → TypeId → List (Result Ty ResolveFault)
interfaces_by world id = map (named_if (is_interface_id world) world id) (interface_indexes world id)

abbrev pub arguments_layer : Ty-F Ty → List Ty
arguments_layer (Ty-F.Named id args) = args
arguments_layer _ = []

abbrev pub arguments : Ty → List Ty
arguments ty = arguments_layer (out-Ty ty)

abbrev pub with_arguments : Ty → Result Ty ResolveFault → Result Ty ResolveFault
with_arguments ty found = and_then found (λ inner. Ok (substituted (arguments ty) [] inner))

abbrev pub base_with : Ty → Result (Option Ty) ResolveFault → Result (Option Ty) ResolveFault
base_with ty base = and_then base (λ inner. Ok (option_map (substituted (arguments ty) []) inner))

-- what stands above a type: that of a vector is System.Array, and nothing above what has no definition
abbrev pub base_of_layer : World → Ty → Ty-F Ty → Option TypeId → Result (Option Ty) ResolveFault
base_of_layer world ty layer None = Ok None
base_of_layer world ty (Ty-F.Vector element) (Some id) = Ok (Some (type_of world id []))
base_of_layer world ty layer (Some id) = base_with ty (base_by world id)

abbrev pub base_type : World → Ty → Result (Option Ty) ResolveFault
base_type world ty = base_of_layer world ty (out-Ty ty) (definition_of world ty)

abbrev pub interfaces_of_layer : World → Ty → Ty-F Ty → Option TypeId → List (Result Ty ResolveFault)
interfaces_of_layer world ty layer None = []
interfaces_of_layer world ty (Ty-F.Vector element) (Some id) = []
interfaces_of_layer world ty layer (Some id) = map (with_arguments ty) (interfaces_by world id)

abbrev pub interface_types : World → Ty → List (Result Ty ResolveFault)
interface_types world ty = interfaces_of_layer world ty (out-Ty ty) (definition_of world ty)

-- ---- fitting

abbrev pub or_then : Result Bool ResolveFault → Result Bool ResolveFault → Result Bool ResolveFault
or_then (Err fault) next = Err fault
or_then (Ok true) next = Ok true
or_then (Ok false) next = next

abbrev pub any_of : (Ty → Result Bool ResolveFault) → List (Result Ty ResolveFault) → Result Bool ResolveFault
any_of test [] = Ok false
any_of test (ty ∷ rest) = or_then (and_then ty test) (any_of test rest)

abbrev pub if_some : (Ty → Result Bool ResolveFault) → Option Ty → Result Bool ResolveFault
if_some test None = Ok false
if_some test (Some ty) = test ty

abbrev pub is_object_layer : {A : Type 0} → Ty-F A → Bool
is_object_layer (Ty-F.Prim Object) = true
is_object_layer _ = false

-- what can be a reference or be boxed
abbrev pub is_object_like_layer : {A : Type 0} → Ty-F A → Bool
is_object_like_layer (Ty-F.Prim Void) = false
is_object_like_layer (Ty-F.ByRef target) = false
is_object_like_layer _ = true

abbrev pub is_reference_in : World → Ty-F Ty → Bool
is_reference_in world (Ty-F.Named id args) = not (is_value_type world id)
is_reference_in world layer = is_reference_layer [] layer

-- vectors of references fit where their elements do, and any other vector its own type alone
abbrev pub vector_fits : World → (Ty → Ty → Result Bool ResolveFault) → Ty-F Ty → Ty-F Ty → Result Bool ResolveFault
vector_fits world fits (Ty-F.Vector a) (Ty-F.Vector b) =
    if is_reference_in world (out-Ty a) && is_reference_in world (out-Ty b) then fits a b else Ok false
vector_fits world fits _ _ = Ok false

-- the same type, or Object, or a vector's; else its interfaces with theirs in order of rows, then its base
abbrev pub fits_within : ℕ → World → Ty → Ty → Result Bool ResolveFault
fits_within zero world from to = Ok false
fits_within (suc left) world from to =
    if same_type from to || (is_object_layer (out-Ty to) && is_object_like_layer (out-Ty from)) then Ok true
    else or_then (vector_fits world (fits_within left world) (out-Ty from) (out-Ty to))
    (or_then (any_of (λ interface. fits_within left world interface to) (interface_types world from))
    (and_then (base_type world from) (if_some (λ base. fits_within left world base to))))

-- Whether a type, boxed where it is a value type, fits another; or the first fault of the walk. A walk from a type
-- passes no definition twice.
unfoldable pub fitting : World → Ty → Ty → Result Bool ResolveFault
fitting world from to = fits_within (depth_of from + length (all_ids world) + 1) world from to
