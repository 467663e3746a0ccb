-- What the tables of names say of the modules of a world.
use Rattle.std.specs.Prelude.{◌≡◌, ℕ, ◌+◌, ◌<◌, ◌^◌, ◌&&◌, nat_lt, Bool, true, List, [], ◌∷◌, Vec, length, slice_get}
use Rattle.std.specs.Prelude.{slice_index, Option, Some}
use Rattle.std.specs.Global.{Global}
use Rattle.std.specs.List.{list_all}
use Rattle.md_tables.specs.declared.module.Table.{Table}
use Rattle.ty_terms.specs.declared.names.TypeId.{TypeId}
use Rattle.ty_load.specs.declared.types.TypeTable.{TypeTable}
use Rattle.ty_names.specs.Modules.{World, tables_at}
use Rattle.ty_names.specs.Definitions.{enclosing, type_count}
use Rattle.ty_names.specs.References.{in_scope}
use Rattle.ty_load.specs.Counting.{AreCounts, has_numbers}
use Rattle.ty_load.specs.Implements.{TellInterfaces}
use Rattle.ty_load.specs.TypeKeys.{TellAssemblies, TellTypes}

-- Modules, and what each has, have numbers of 32 bits.
abbrev pub are_numbered : World → Bool
are_numbered world = nat_lt (length world) (2 ^ 32) && list_all (λ given. has_numbers given.tables) world

-- The types of a module: what is around each, and their rows by their names.
pub record IsTypeTable (tables : List Table) (table : TypeTable) : Type 0 where
  pub count : length table.outer ≡ type_count tables
  pub nested : (k : ℕ) → k < type_count tables → slice_index table.outer k ≡ enclosing tables (k + 1)
  pub told : TellTypes tables table.rows.entries
  pub counts : AreCounts tables table.parameters
  pub interfaces : TellInterfaces tables table.interfaces.entries
  pub numbered : has_numbers tables ≡ true

-- the first modules have these tables
abbrev pub AreTypeTables : World → List TypeTable → Type 0
AreTypeTables world types =
    (number : ℕ) (table : TypeTable) → slice_get types number ≡ Some table → IsTypeTable (tables_at world number) table

-- The modules, each with the table of its types, and the assemblies by their names.
pub record AreNames (world : World) (types : List TypeTable) (assemblies : List (Vec ℕ Global × ℕ)) : Type 0 where
  pub small : length world < 2 ^ 32
  pub numbered : are_numbered world ≡ true
  pub count : length types ≡ length world
  pub told : AreTypeTables world types
  pub assembled : TellAssemblies world assemblies

-- the type that references lead to from the scope of the last of them, each the scope of the one in front of it
abbrev pub through : World → List Table → List ℕ → Option TypeId → Option TypeId
through world tables [] outer = outer
through world tables (row ∷ rows) outer = in_scope world tables row (through world tables rows outer)
