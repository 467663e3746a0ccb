-- What stands above a type, by the definition that it has.
use Rattle.std.specs.Prelude.{ℕ, Bool, true, if◌then◌else◌, ◌||◌, ◌&&◌, List, [], codes, map, Option, Some, None}
use Rattle.std.specs.Prelude.{Result, Ok}
use Rattle.std.specs.Option.{option_map}
use Rattle.ty_terms.specs.declared.names.TypeId.{TypeId}
use Rattle.ty_terms.specs.declared.ty.Ty.{Ty}
use Rattle.ty_terms.specs.declared.ty.Ty.TheOpen.{Ty-F}
use Rattle.ty_terms.specs.declared.ty.Ty.TheViews.{out-Ty}
use Rattle.ty_names.specs.declared.cells.RowOf.{RowOf}
use Rattle.ty_names.specs.Modules.{World}
use Rattle.ty_load.specs.declared.fault.ResolveFault.{ResolveFault}
use Rattle.ty_load.specs.Bases.{is_interface_id}
use Rattle.ty_load.specs.Members.{same_type}
use Rattle.ty_load.specs.Primitives.{name_of_primitive, system_type, type_of}
use Rattle.ty_load.specs.Walks.{any_of, base_by, base_with, fits_within, interface_types, is_object_layer}
use Rattle.ty_load.specs.Walks.{is_object_like_layer, named_if, or_then, vector_fits, with_arguments}

-- the base of a definition with the arguments of a type, if there is a definition
abbrev pub base_or_none : World → Ty → Option TypeId → Result (Option Ty) ResolveFault
base_or_none world ty None = Ok None
base_or_none world ty (Some id) = base_with ty (base_by world id)

-- what stands above each vector
abbrev pub array_of : World → Option Ty
array_of world = option_map (λ id. type_of world id []) (system_type world (codes "Array"))

-- the definition whose interfaces a type has
abbrev pub implementer_layer : World → Ty-F Ty → Option TypeId
implementer_layer world (Ty-F.Prim primitive) = system_type world (name_of_primitive primitive)
implementer_layer world (Ty-F.Named id args) = Some id
implementer_layer world _ = None

abbrev pub implementer : World → Ty → Option TypeId
implementer world ty = implementer_layer world (out-Ty ty)

-- one of them, by its index
abbrev pub interface_at : World → Ty → TypeId → RowOf → Result Ty ResolveFault
interface_at world ty id index = with_arguments ty (named_if (is_interface_id world) world id index)

-- ---- fitting

-- a type fits itself and System.Object, and needs no walk for that
abbrev pub fits_at_once : Ty → Ty → Bool
fits_at_once from to = same_type from to || (is_object_layer (out-Ty to) && is_object_like_layer (out-Ty from))

-- whether one of these interfaces fits, by walks over so many types at most
abbrev pub one_fits : ℕ → World → Ty → Ty → TypeId → List RowOf → Result Bool ResolveFault
one_fits left world from to id indexes =
    any_of (λ interface. fits_within left world interface to) (map (interface_at world from id) indexes)

abbrev pub interfaces_fit : ℕ → World → Ty → Ty → Result Bool ResolveFault
interfaces_fit left world from to =
    any_of (λ interface. fits_within left world interface to) (interface_types world from)

abbrev pub vectors_fit : ℕ → World → Ty → Ty → Result Bool ResolveFault
vectors_fit left world from to = vector_fits world (fits_within left world) (out-Ty from) (out-Ty to)

-- whether a type fits but for its base, by walks over so many types at most
abbrev pub fits_beside : ℕ → World → Ty → Ty → Result Bool ResolveFault
fits_beside left world from to =
    if fits_at_once from to then Ok true
    else or_then (vectors_fit left world from to) (interfaces_fit left world from to)

-- the element type of a vector
abbrev pub element_layer : Ty-F Ty → Option Ty
element_layer (Ty-F.Vector element) = Some element
element_layer _ = None

abbrev pub element_of : Ty → Option Ty
element_of ty = element_layer (out-Ty ty)
