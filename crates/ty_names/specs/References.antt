-- Which type a reference names: TypeRef (II.22.38), by the names of assemblies, namespaces and types.
use Rattle.std.specs.Prelude.{ℕ, zero, suc, ◌==◌, ◌||◌, ◌&&◌, nat_le, Bool, false, not, if◌then◌else◌, List}
use Rattle.std.specs.Prelude.{take, find, codes, Option, Some, None}
use Rattle.std.specs.List.{range_with_len}
use Rattle.std.specs.Option.{option_map}
use Rattle.std.specs.Str.{bytes_eq}
use Rattle.md_tables.specs.declared.module.Table.{Table}
use Rattle.ty_terms.specs.declared.names.TypeId.{TypeId}
use Rattle.ty_names.specs.declared.cells.RowOf.{RowOf}
use Rattle.ty_names.specs.Modules.{World, core_of, tables_at, row_count, cell_at, name_of, coded_of}
use Rattle.ty_names.specs.Definitions.{type_count, type_name, type_namespace, enclosing, assembly_name}

-- ---- assemblies

abbrev pub is_named : List ℕ → Option (List ℕ) → Bool
is_named name None = false
is_named name (Some other) = bytes_eq name other

-- the first of the modules in front of the core whose assembly has this name
abbrev pub handed_in : World → List ℕ → Option ℕ
handed_in world name =
    find (λ number. is_named name (assembly_name (tables_at world number))) (range_with_len 0 (core_of world))

-- the assemblies of which the core has the types
abbrev pub is_of_core : List ℕ → Bool
is_of_core name =
    bytes_eq name (codes "mscorlib") || bytes_eq name (codes "netstandard") || bytes_eq name (codes "System")
    || bytes_eq (take 7 name) (codes "System.")

abbrev pub or_core : World → List ℕ → Option ℕ → Option ℕ
or_core world name (Some number) = Some number
or_core world name None = if is_of_core name then Some (core_of world) else None

-- the module that a reference to an assembly of this name leads to
abbrev pub module_named : World → List ℕ → Option ℕ
module_named world name = or_core world name (handed_in world name)

abbrev pub referenced_assembly : List Table → ℕ → List ℕ
referenced_assembly tables row = name_of (cell_at tables 0x23 row 6)

-- ---- types

-- the first type of a module that is nested in this one, or in none for 0, and has this namespace and name
abbrev pub is_type : List Table → ℕ → List ℕ → List ℕ → ℕ → Bool
is_type tables outer namespace name row =
    outer == enclosing tables row && bytes_eq namespace (type_namespace tables row)
    && bytes_eq name (type_name tables row)

abbrev pub type_row : List Table → ℕ → List ℕ → List ℕ → Option ℕ
type_row tables outer namespace name =
    find (is_type tables outer namespace name) (range_with_len 1 (type_count tables))

abbrev pub id_of : ℕ → ℕ → TypeId
id_of number row = record { «module» = number; row = row }

abbrev pub type_in : World → ℕ → ℕ → List ℕ → List ℕ → Option TypeId
type_in world number outer namespace name =
    option_map (id_of number) (type_row (tables_at world number) outer namespace name)

abbrev pub reference_scope : List Table → ℕ → RowOf
reference_scope tables row = coded_of (cell_at tables 0x01 row 0)

abbrev pub reference_name : List Table → ℕ → List ℕ
reference_name tables row = name_of (cell_at tables 0x01 row 1)

abbrev pub reference_namespace : List Table → ℕ → List ℕ
reference_namespace tables row = name_of (cell_at tables 0x01 row 2)

-- a type of a scope: its module and the type around it, or 0
abbrev pub in_scope : World → List Table → ℕ → Option TypeId → Option TypeId
in_scope world tables row None = None
in_scope world tables row (Some outer) =
    type_in world outer.module outer.row (reference_namespace tables row) (reference_name tables row)

abbrev pub whole_module : Option ℕ → Option TypeId
whole_module = option_map (λ number. id_of number 0)

-- whether a scope is the reference to the type around
abbrev pub is_nested_scope : RowOf → Bool
is_nested_scope scope = not (scope.row == 0) && scope.table == 0x01

-- What a scope is that isn't such a reference: the module itself, or an assembly; a scope of row 0 and a ModuleRef lead
-- nowhere.
abbrev pub plain_scope : World → ℕ → RowOf → Option TypeId
plain_scope world number scope =
    if scope.row == 0 then None
    else if scope.table == 0x00 then Some (id_of number 0)
    else if scope.table == 0x23
    then whole_module (module_named world (referenced_assembly (tables_at world number) scope.row))
    else None

abbrev pub scope_of : (ℕ → Option TypeId) → World → ℕ → RowOf → Option TypeId
scope_of nested world number scope =
    if is_nested_scope scope then nested scope.row else plain_scope world number scope

-- The type that a row of TypeRef of a module names. References to types around it are followed so often at most.
abbrev pub reference_within : ℕ → World → ℕ → ℕ → Option TypeId
reference_within zero world number row = None
reference_within (suc left) world number row =
    in_scope world (tables_at world number) row
    (scope_of (reference_within left world number) world number (reference_scope (tables_at world number) row))

abbrev pub reference : World → ℕ → ℕ → Option TypeId
reference world number row = reference_within (row_count (tables_at world number) 0x01) world number row

-- ---- definitions: a row of TypeDef that is there, or one of TypeRef

abbrev pub definition_row : World → ℕ → ℕ → Option TypeId
definition_row world number row =
    if nat_le 1 row && nat_le row (type_count (tables_at world number)) then Some (id_of number row) else None

abbrev pub definition : World → ℕ → ℕ → ℕ → Option TypeId
definition world number table row =
    if table == 0x02 then definition_row world number row
    else if table == 0x01 then reference world number row
    else None
