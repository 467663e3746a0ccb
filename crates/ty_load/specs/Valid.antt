-- Which modules make a world: the faults of one, in their order.
use Rattle.std.specs.Prelude.{◌≡◌, ℕ, ◌-◌, ◌&&◌, Bool, false, not, List, find}
use Rattle.std.specs.Prelude.{Option, Some, None}
use Rattle.std.specs.List.{list_any, range_with_len}
use Rattle.std.specs.Option.{option_map, option_and_then}
use Rattle.std.specs.Str.{bytes_eq}
use Rattle.ty_terms.specs.declared.names.MethodName.{MethodName}
use Rattle.ty_terms.specs.declared.names.TypeId.{TypeId}
use Rattle.ty_load.specs.declared.fault.LoadFault.{LoadFault}
use Rattle.ty_load.specs.declared.fault.LoadFault.TheVariants.{Cyclic, Twice, NoEntry}
use Rattle.ty_names.specs.Modules.{World, core_of, tables_at}
use Rattle.ty_names.specs.Definitions.{assembly_name}
use Rattle.ty_names.specs.Escapes.{name_text}
use Rattle.ty_names.specs.TypeTexts.{definition_text}
use Rattle.ty_names.specs.References.{id_of, is_named}
use Rattle.ty_load.specs.Cycles.{all_ids, is_on_cycle, first_on_cycle, inherits, is_nested_in, contains}
use Rattle.ty_load.specs.Entry.{entry_of}

-- ---- 15: one assembly name twice, or one text

-- the name of the assembly of a module in front of the core
abbrev pub name_at : World → ℕ → Option (List ℕ)
name_at world number = assembly_name (tables_at world number)

abbrev pub has_earlier_name : World → ℕ → Option (List ℕ) → Bool
has_earlier_name world number None = false
has_earlier_name world number (Some name) =
    list_any (λ other. is_named name (name_at world other)) (range_with_len 0 number)

-- the first assembly name that an earlier module has too
abbrev pub repeated_name : World → Option (List ℕ)
repeated_name world =
    option_and_then (name_at world)
    (find (λ number. has_earlier_name world number (name_at world number)) (range_with_len 0 (core_of world)))

-- a type that is nested in itself has no text
abbrev pub has_text : World → TypeId → Bool
has_text world id = not (is_on_cycle world (is_nested_in world) id)

abbrev pub have_one_text : World → TypeId → TypeId → Bool
have_one_text world id other =
    has_text world id && has_text world other && bytes_eq (definition_text world id) (definition_text world other)

abbrev pub has_earlier_text : World → TypeId → Bool
has_earlier_text world id =
    list_any (λ row. have_one_text world id (id_of id.module row)) (range_with_len 1 (id.row - 1))

-- the first type whose text an earlier type of its module has too
abbrev pub repeated_type : World → Option TypeId
repeated_type world = find (has_earlier_text world) (all_ids world)

abbrev pub or_else : {A : Type 0} → Option A → Option A → Option A
or_else (Some first) second = Some first
or_else None second = second

abbrev pub repeated : World → Option (List ℕ)
repeated world =
    or_else (option_map name_text (repeated_name world)) (option_map (definition_text world) (repeated_type world))

-- ---- 14: the first type on a cycle, of the first relation that has one

abbrev pub cyclic : World → Option TypeId
cyclic world =
    or_else (first_on_cycle world (inherits world))
    (or_else (first_on_cycle world (is_nested_in world)) (first_on_cycle world (contains world)))

-- ---- all

abbrev pub entry_fault : Option MethodName → Option LoadFault
entry_fault None = Some NoEntry
entry_fault (Some entry) = None

-- Why modules make no world, if they don't: what stands twice, then cycles, then the entry.
unfoldable pub world_fault : World → Option LoadFault
world_fault world =
    or_else (option_map Twice (repeated world))
    (or_else (option_map (λ id. Cyclic (definition_text world id)) (cyclic world)) (entry_fault (entry_of world)))

-- the modules make a world
abbrev pub IsValidWorld : World → Type 0
IsValidWorld world = world_fault world ≡ None
