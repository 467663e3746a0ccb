-- The type definitions of a world by numbers, over its modules in their order.
use Rattle.std.specs.Prelude.{◌≡◌, ℕ, zero, suc, ◌+◌, ◌-◌, ◌<◌, ◌≤◌, List, length, map, slice_index}
use Rattle.ty_terms.specs.declared.names.TypeId.{TypeId}
use Rattle.ty_names.specs.Modules.{World, tables_at}
use Rattle.ty_names.specs.Definitions.{type_count}
use Rattle.ty_load.specs.Cycles.{all_ids, inherits, is_nested_in}
use Rattle.ty_world.specs.declared.numbering.Numbering.{Numbering}
use Rattle.ty_world.specs.declared.relations.Relation.{Relation}
use Rattle.ty_world.specs.declared.relations.Relation.TheVariants.{Inheritance, Nesting}

-- a type definition that is there
abbrev pub IsDefined : World → TypeId → Type 0
IsDefined world id = (1 ≤ id.row) × (id.row ≤ type_count (tables_at world id.module))

-- how many definitions there are in so many modules, the first ones
abbrev pub start_of : World → ℕ → ℕ
start_of world zero = 0
start_of world (suc number) = start_of world number + type_count (tables_at world number)

-- the number of a definition, counted from 0
abbrev pub number_of : World → TypeId → ℕ
number_of world id = start_of world id.module + (id.row - 1)

-- the definitions in their order, and the number of the first of each module
pub record IsNumbering (world : World) (numbering : Numbering) : Type 0 where
  pub ids : numbering.ids.items ≡ all_ids world
  pub modules : length numbering.starts.items ≡ length world
  pub starts : (number : ℕ) → number < length world → slice_index numbering.starts.items number ≡ start_of world number

-- to what a definition leads
abbrev pub edges_of : Relation → World → TypeId → List TypeId
edges_of Inheritance = inherits
edges_of Nesting = is_nested_in

-- the graph of a relation: for each definition the numbers of those to which it leads
abbrev pub graph_of : World → (TypeId → List TypeId) → List (List ℕ)
graph_of world edges = map (λ id. map (number_of world) (edges id)) (all_ids world)
