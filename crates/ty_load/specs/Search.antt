-- Types by their full names, as programs ask for them: `Namespace.Name`, and `+` before the name of a nested type.
use Rattle.std.specs.Prelude.{ℕ, ◌==◌, ◌&&◌, if◌then◌else◌, List, [], ◌∷◌, ◌++◌, codes, find, Option}
use Rattle.std.specs.Str.{bytes_eq}
use Rattle.md_tables.specs.declared.module.Table.{Table}
use Rattle.ty_terms.specs.declared.names.TypeId.{TypeId}
use Rattle.ty_names.specs.Modules.{World, tables_at}
use Rattle.ty_names.specs.Definitions.{type_name, type_namespace, enclosing}
use Rattle.ty_names.specs.TypeTexts.{types_around}
use Rattle.ty_load.specs.Bases.{parameters}
use Rattle.ty_load.specs.Cycles.{all_ids}

-- the name as it stands, without escapes
abbrev pub dotted : List ℕ → List ℕ → List ℕ
dotted [] name = name
dotted (byte ∷ rest) name = (byte ∷ rest) ++ codes "." ++ name

abbrev pub own_name : List Table → ℕ → List ℕ
own_name tables row =
    if enclosing tables row == 0 then dotted (type_namespace tables row) (type_name tables row)
    else codes "+" ++ type_name tables row

abbrev pub joined_names : List Table → List ℕ → List ℕ
joined_names tables [] = []
joined_names tables (row ∷ outer) = joined_names tables outer ++ own_name tables row

abbrev pub full_name : List Table → ℕ → List ℕ
full_name tables row = joined_names tables (types_around tables row)

-- the text before the first comma
abbrev pub before_comma : List ℕ → List ℕ
before_comma [] = []
before_comma (byte ∷ rest) = if byte == 0x2C then [] else byte ∷ before_comma rest

-- The first type without parameters that has this full name, by modules and rows; the core is the last module.
unfoldable pub type_by_name : World → List ℕ → Option TypeId
type_by_name world text =
    find (λ id. parameters world id == 0 && bytes_eq (full_name (tables_at world id.module) id.row) (before_comma text))
    (all_ids world)
