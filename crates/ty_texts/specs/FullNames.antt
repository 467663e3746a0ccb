-- Types by their full names in a table.
use Rattle.std.specs.Prelude.{◌≡◌, ℕ, ◌==◌, ◌&&◌, Bool, List, Vec, find, if◌then◌else◌, Option, Some}
use Rattle.std.specs.Global.{Global}
use Rattle.std.specs.Map.{lookup}
use Rattle.std.specs.Str.{bytes_eq}
use Rattle.ty_terms.specs.declared.names.TypeId.{TypeId}
use Rattle.ty_names.specs.Modules.{World, tables_at}
use Rattle.ty_load.specs.Bases.{parameters}
use Rattle.ty_load.specs.Cycles.{all_ids}
use Rattle.ty_load.specs.Search.{full_name}

abbrev pub NameEntry : Type 0
NameEntry = Vec ℕ Global × TypeId

-- the type that entries tell of a name
abbrev pub type_in_entries : List NameEntry → List ℕ → Option TypeId
type_in_entries entries name = lookup (λ key. bytes_eq name key.items) entries

-- a type without parameters that has this full name
abbrev pub has_full_name : World → List ℕ → TypeId → Bool
has_full_name world name id =
    parameters world id == 0 && bytes_eq (full_name (tables_at world id.module) id.row) name

-- they tell of each name the first type without parameters that has it as its full name
abbrev pub TellFullNames : World → List NameEntry → Type 0
TellFullNames world entries =
    (name : List ℕ) → type_in_entries entries name ≡ find (has_full_name world name) (all_ids world)

-- they tell of one type more, in place of one of the same name
abbrev pub TellOneName : World → TypeId → List NameEntry → List NameEntry → Type 0
TellOneName world id old new =
    (name : List ℕ) → type_in_entries new name
    ≡ (if has_full_name world name id then Some id else type_in_entries old name)
