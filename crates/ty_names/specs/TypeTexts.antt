-- The texts of type definitions and of assemblies.
use Rattle.std.specs.Prelude.{ℕ, zero, suc, ◌==◌, ◌||◌, ◌++◌, if◌then◌else◌, List, [], ◌∷◌, codes, Option, Some, None}
use Rattle.std.specs.List.{list_any}
use Rattle.md_tables.specs.declared.module.Table.{Table}
use Rattle.ty_terms.specs.declared.names.TypeId.{TypeId}
use Rattle.ty_names.specs.Modules.{World, core_of, tables_at}
use Rattle.ty_names.specs.Definitions.{type_count, type_name, type_namespace, enclosing, assembly_name}
use Rattle.ty_names.specs.Escapes.{name_text, type_name_text, qualified_text}

-- A type and the types around it, from the inside, up to one that isn't nested or is there already; among so many.
abbrev pub around : ℕ → List Table → List ℕ → ℕ → List ℕ
around zero tables seen row = []
around (suc left) tables seen row =
    if row == 0 || list_any (λ other. row == other) seen then []
    else row ∷ around left tables (row ∷ seen) (enclosing tables row)

abbrev pub types_around : List Table → ℕ → List ℕ
types_around tables row = around (type_count tables) tables [] row

-- a nested type's own namespace is left out
abbrev pub own_text : List Table → ℕ → List ℕ
own_text tables row =
    if enclosing tables row == 0 then qualified_text (type_namespace tables row) (type_name tables row)
    else type_name_text (type_name tables row)

abbrev pub in_encloser : List ℕ → List ℕ → List ℕ
in_encloser [] own = own
in_encloser (byte ∷ rest) own = (byte ∷ rest) ++ codes "+" ++ own

abbrev pub nested_text : List Table → List ℕ → List ℕ
nested_text tables [] = []
nested_text tables (row ∷ outer) = in_encloser (nested_text tables outer) (own_text tables row)

-- the text of a type within its module: `Namespace.Name`, or `Enclosing+Name`
abbrev pub text_in_module : List Table → ℕ → List ℕ
text_in_module tables row = nested_text tables (types_around tables row)

-- an assembly in brackets; a module without an assembly has empty ones
abbrev pub or_empty : Option (List ℕ) → List ℕ
or_empty None = []
or_empty (Some name) = name_text name

abbrev pub assembly_text : List Table → List ℕ
assembly_text tables = codes "[" ++ or_empty (assembly_name tables) ++ codes "]"

-- a type of the core stands without an assembly
abbrev pub module_text : World → ℕ → List ℕ
module_text world number = if number == core_of world then [] else assembly_text (tables_at world number)

-- The text of a type definition: `[assembly]Namespace.Name`.
abbrev pub definition_text : World → TypeId → List ℕ
definition_text world id = module_text world id.module ++ text_in_module (tables_at world id.module) id.row
