-- Bases and interfaces: II.22.37, II.22.23, and which types are value types: II.13.
use Rattle.std.specs.Prelude.{ℕ, zero, suc, ◌==◌, ◌&&◌, ◌||◌, Bool, true, false, not, if◌then◌else◌, List}
use Rattle.std.specs.Prelude.{map, codes, Option, Some, None}
use Rattle.std.specs.Option.{option_and_then}
use Rattle.ty_terms.specs.declared.names.TypeId.{TypeId}
use Rattle.ty_terms.specs.declared.ty.Ty.{Ty}
use Rattle.ty_terms.specs.declared.ty.Ty.TheOpen.{Ty-F}
use Rattle.ty_terms.specs.declared.ty.Ty.TheViews.{out-Ty}
use Rattle.ty_names.specs.declared.cells.RowOf.{RowOf}
use Rattle.ty_names.specs.Modules.{World, core_of, tables_at}
use Rattle.ty_names.specs.Definitions.{type_count, type_extends, is_interface, generic_count}
use Rattle.ty_load.specs.Implements.{implemented}
use Rattle.ty_load.specs.Primitives.{core_type, system_type, definition_of}
use Rattle.ty_load.specs.Types.{type_at}

abbrev pub same_id : TypeId → TypeId → Bool
same_id a b = a.module == b.module && a.row == b.row

abbrev pub is_id : TypeId → Option TypeId → Bool
is_id id None = false
is_id id (Some other) = same_id id other

-- how many parameters a type definition has
abbrev pub parameters : World → TypeId → ℕ
parameters world id = generic_count (tables_at world id.module) 0x02 id.row

-- a type that a type definition names, in its own variables
abbrev pub named_by : World → TypeId → RowOf → Option Ty
named_by world id index = type_at world id.module (parameters world id) 0 index

-- ---- what a type extends, whether it may or not

abbrev pub named_base : World → TypeId → Option Ty
named_base world id = named_by world id (type_extends (tables_at world id.module) id.row)

abbrev pub named_base_definition : World → TypeId → Option TypeId
named_base_definition world id = option_and_then (definition_of world) (named_base world id)

abbrev pub is_interface_id : World → TypeId → Bool
is_interface_id world id = is_interface (tables_at world id.module) id.row

abbrev pub is_value_base : World → Option TypeId → Bool
is_value_base world None = false
is_value_base world (Some base) =
    is_id base (system_type world (codes "ValueType")) || is_id base (system_type world (codes "Enum"))

-- A value type extends System.ValueType or System.Enum, and is neither System.Enum itself nor an interface.
abbrev pub is_value_type : World → TypeId → Bool
is_value_type world id =
    is_value_base world (named_base_definition world id) && not (is_id id (system_type world (codes "Enum")))
    && not (is_interface_id world id)

-- ---- which bases a type may have

-- the types of the core under which a handed-in type can't stand
abbrev pub is_closed_root : World → TypeId → Bool
is_closed_root world id =
    is_id id (system_type world (codes "String")) || is_id id (system_type world (codes "Array"))
    || is_id id (system_type world (codes "Type"))
    || is_id id (core_type world (codes "System.Reflection") (codes "MethodBase"))

abbrev pub closed_if : (TypeId → Bool) → Option TypeId → Bool
closed_if test None = false
closed_if test (Some id) = test id

-- one of these, or a type of the core that extends such a type, over so many bases at most
abbrev pub is_closed_within : ℕ → World → TypeId → Bool
is_closed_within zero world id = false
is_closed_within (suc left) world id =
    id.module == core_of world
    && (is_closed_root world id || closed_if (is_closed_within left world) (named_base_definition world id))

abbrev pub is_closed : World → TypeId → Bool
is_closed world id = is_closed_within (type_count (tables_at world (core_of world))) world id

-- an interface extends nothing but System.Object
abbrev pub suits_interface : World → TypeId → TypeId → Bool
suits_interface world id base = not (is_interface_id world id) || is_id base (system_type world (codes "Object"))

abbrev pub may_extend : World → TypeId → TypeId → Bool
may_extend world id base =
    (id.module == core_of world || not (is_closed world base)) && not (is_value_type world base)
    && suits_interface world id base

-- neither a variable nor a vector nor a byref
abbrev pub has_definition_layer : {A : Type 0} → Ty-F A → Bool
has_definition_layer (Ty-F.Prim primitive) = true
has_definition_layer (Ty-F.Named id args) = true
has_definition_layer _ = false

abbrev pub has_definition : Ty → Bool
has_definition ty = has_definition_layer (out-Ty ty)

abbrev pub kept_if : (TypeId → Bool) → World → Ty → Option Ty
kept_if test world ty =
    if has_definition ty && closed_if test (definition_of world ty) then Some ty else None

-- The base of a type definition, in its own variables; nothing where it extends nothing, or what it can't extend.
abbrev pub base_of : World → TypeId → Option Ty
base_of world id = option_and_then (kept_if (may_extend world id) world) (named_base world id)

-- The interfaces that a type definition names, in order of the rows of InterfaceImpl; nothing where a row names no
-- interface.
abbrev pub interface_indexes : World → TypeId → List RowOf
interface_indexes world id = implemented (tables_at world id.module) id.row

abbrev pub interface_by : World → TypeId → RowOf → Option Ty
interface_by world id index = option_and_then (kept_if (is_interface_id world) world) (named_by world id index)

abbrev pub interfaces_of : World → TypeId → List (Option Ty)
interfaces_of world id = map (interface_by world id) (interface_indexes world id)
