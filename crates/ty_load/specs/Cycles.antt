-- Types that lead back to themselves: by bases and interfaces, by the types around them, by the values in their fields.
use Rattle.std.specs.Prelude.{ℕ, zero, suc, ◌==◌, ◌||◌, Bool, false, not, if◌then◌else◌, List, [], ◌∷◌, map}
use Rattle.std.specs.Prelude.{filter}
use Rattle.std.specs.Prelude.{find, length, Option, Some, None}
use Rattle.std.specs.List.{list_any, flat_map, range_with_len}
use Rattle.std.specs.Option.{option_and_then}
use Rattle.ty_terms.specs.declared.names.TypeId.{TypeId}
use Rattle.ty_terms.specs.declared.ty.Ty.{Ty}
use Rattle.ty_terms.specs.declared.ty.Ty.TheOpen.{Ty-F}
use Rattle.ty_terms.specs.declared.ty.Ty.TheFolds.{fold-Ty}
use Rattle.ty_names.specs.Modules.{World, tables_at}
use Rattle.ty_names.specs.Definitions.{type_count, enclosing, fields_of, is_static_field}
use Rattle.ty_names.specs.References.{id_of}
use Rattle.ty_load.specs.Primitives.{name_of_primitive, system_type, definition_of}
use Rattle.ty_load.specs.Bases.{same_id, is_value_type, base_of, interfaces_of}
use Rattle.ty_load.specs.Members.{field_sig}

-- the type definitions of a world, in order of modules and rows
abbrev pub ids_of : World → ℕ → List TypeId
ids_of world number = map (id_of number) (range_with_len 1 (type_count (tables_at world number)))

abbrev pub all_ids : World → List TypeId
all_ids world = flat_map (ids_of world) (range_with_len 0 (length world))

-- ---- ways

-- a way leads from a type to another, over at least one and at most so many edges
abbrev pub leads_within : ℕ → (TypeId → List TypeId) → TypeId → TypeId → Bool
leads_within zero edges from to = false
leads_within (suc left) edges from to =
    list_any (λ next. same_id next to || leads_within left edges next to) (edges from)

-- a type that leads to itself; a way that meets no type twice has no more edges than there are types
abbrev pub is_on_cycle : World → (TypeId → List TypeId) → TypeId → Bool
is_on_cycle world edges id = leads_within (length (all_ids world)) edges id id

abbrev pub first_on_cycle : World → (TypeId → List TypeId) → Option TypeId
first_on_cycle world edges = find (is_on_cycle world edges) (all_ids world)

-- ---- the three relations

abbrev pub listed : {A : Type 0} → Option A → List A
listed None = []
listed (Some item) = item ∷ []

abbrev pub definitions_in : World → List (Option Ty) → List TypeId
definitions_in world types = flat_map (λ ty. listed (option_and_then (definition_of world) ty)) types

-- to the base and the interfaces, their arguments left aside
abbrev pub inherits : World → TypeId → List TypeId
inherits world id = definitions_in world (base_of world id ∷ interfaces_of world id)

-- to the type around it
abbrev pub is_nested_in : World → TypeId → List TypeId
is_nested_in world id =
    let outer = enclosing (tables_at world id.module) id.row in
    if outer == 0 then [] else id_of id.module outer ∷ []

-- the value types in a type: itself, and those in the arguments of a value type
abbrev pub if_value : World → TypeId → List TypeId → List TypeId
if_value world id args = if is_value_type world id then id ∷ args else []

abbrev pub value_step : World → Ty-F (List TypeId) → List TypeId
value_step world (Ty-F.Prim primitive) =
    flat_map (λ id. if_value world id []) (listed (system_type world (name_of_primitive primitive)))
value_step world (Ty-F.Named id args) = if_value world id (flat_map (λ inner. inner) args)
value_step world _ = []

abbrev pub values_in : World → Ty → List TypeId
values_in world = fold-Ty (List TypeId) (value_step world)

abbrev pub instance_fields : World → TypeId → List ℕ
instance_fields world id =
    let tables = tables_at world id.module in
    filter (λ row. not (is_static_field tables row)) (fields_of tables id.row)

-- from a value type to each value type in the type of one of its instance fields
abbrev pub contains : World → TypeId → List TypeId
contains world id =
    if is_value_type world id
    then flat_map (λ row. flat_map (values_in world) (listed (field_sig world id row))) (instance_fields world id)
    else []

-- ---- what a world has

-- the value types of a world, in order of modules and rows
abbrev pub values_of : World → List TypeId
values_of world = filter (is_value_type world) (all_ids world)
