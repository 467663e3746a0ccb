-- How the types of a module, and the assemblies of a world, are told by their names.
use Rattle.std.specs.Prelude.{◌≡◌, ℕ, ◌==◌, ◌&&◌, cond, Bool, List, Vec, Option, Some}
use Rattle.std.specs.Global.{Global}
use Rattle.std.specs.Map.{lookup}
use Rattle.std.specs.Str.{bytes_eq}
use Rattle.md_tables.specs.declared.module.Table.{Table}
use Rattle.ty_names.specs.Modules.{World}
use Rattle.ty_names.specs.Definitions.{assembly_name}
use Rattle.ty_names.specs.References.{handed_in, is_named, is_type, type_row}

-- ---- types, by the row of the type around or 0, by their namespaces and by their names

abbrev pub TypeKey : Type 0
TypeKey = ℕ × Vec ℕ Global × Vec ℕ Global

abbrev pub is_key : ℕ → List ℕ → List ℕ → TypeKey → Bool
is_key outer namespace name key = outer == key.0 && bytes_eq namespace key.1.items && bytes_eq name key.2.items

-- the row that entries tell of a key
abbrev pub row_in : List (TypeKey × ℕ) → ℕ → List ℕ → List ℕ → Option ℕ
row_in entries outer namespace name = lookup (is_key outer namespace name) entries

-- they tell the rows of a module's types
abbrev pub TellTypes : List Table → List (TypeKey × ℕ) → Type 0
TellTypes tables entries =
    (outer : ℕ) (namespace name : List ℕ) → row_in entries outer namespace name ≡ type_row tables outer namespace name

-- they tell one more row, in place of one of the same key
abbrev pub TellType : List Table → ℕ → List (TypeKey × ℕ) → List (TypeKey × ℕ) → Type 0
TellType tables row old new =
    (outer : ℕ) (namespace name : List ℕ) → row_in new outer namespace name
    ≡ cond (is_type tables outer namespace name row) (Some row) (row_in old outer namespace name)

-- ---- assemblies, by their names

abbrev pub module_in : List (Vec ℕ Global × ℕ) → List ℕ → Option ℕ
module_in entries name = lookup (λ key. bytes_eq name key.items) entries

abbrev pub TellAssemblies : World → List (Vec ℕ Global × ℕ) → Type 0
TellAssemblies world entries = (name : List ℕ) → module_in entries name ≡ handed_in world name

abbrev pub TellName : List ℕ → ℕ → List (Vec ℕ Global × ℕ) → List (Vec ℕ Global × ℕ) → Type 0
TellName name number old new =
    (other : List ℕ) → module_in new other ≡ cond (bytes_eq other name) (Some number) (module_in old other)

abbrev pub TellAssembly : List Table → ℕ → List (Vec ℕ Global × ℕ) → List (Vec ℕ Global × ℕ) → Type 0
TellAssembly tables number old new =
    (name : List ℕ) → module_in new name
    ≡ cond (is_named name (assembly_name tables)) (Some number) (module_in old name)
