-- The definitions of a module: types, their fields and methods, and how they are nested.
use Rattle.std.specs.Prelude.{ℕ, ◌+◌, ◌-◌, ◌/◌, ◌%◌, ◌==◌, ◌&&◌, max, nat_le, nat_lt, Bool, false, if◌then◌else◌, List}
use Rattle.std.specs.Prelude.{count_by}
use Rattle.std.specs.Prelude.{find, slice_get, Option, Some, None}
use Rattle.std.specs.List.{range_with_len}
use Rattle.md_tables.specs.declared.module.Table.{Table}
use Rattle.md_tables.specs.declared.module.TableRow.{TableRow}
use Rattle.ty_names.specs.declared.cells.RowOf.{RowOf}
use Rattle.ty_names.specs.Modules.{rows, row_at, row_count, cell_at, cell_of, number_of, name_of, blob_of, index_of}
use Rattle.ty_names.specs.Modules.{coded_of}

-- ---- types: TypeDef (II.22.37), flags (II.23.1.15)

abbrev pub type_count : List Table → ℕ
type_count tables = row_count tables 0x02

abbrev pub type_flags : List Table → ℕ → ℕ
type_flags tables row = number_of (cell_at tables 0x02 row 0)

abbrev pub type_name : List Table → ℕ → List ℕ
type_name tables row = name_of (cell_at tables 0x02 row 1)

abbrev pub type_namespace : List Table → ℕ → List ℕ
type_namespace tables row = name_of (cell_at tables 0x02 row 2)

-- what the type extends, by an index of TypeDefOrRef; row 0 where it extends nothing
abbrev pub type_extends : List Table → ℕ → RowOf
type_extends tables row = coded_of (cell_at tables 0x02 row 3)

abbrev pub has_flag : ℕ → ℕ → Bool
has_flag flags bit = flags / bit % 2 == 1

abbrev pub is_interface : List Table → ℕ → Bool
is_interface tables row = has_flag (type_flags tables row) 0x20

abbrev pub is_abstract_type : List Table → ℕ → Bool
is_abstract_type tables row = has_flag (type_flags tables row) 0x80

-- The type in which a type is nested, or 0: by the first row of NestedClass (II.22.32) that has it.
abbrev pub is_nested_row : ℕ → TableRow → Bool
is_nested_row row nested = index_of (slice_get nested.cells 0) == row

abbrev pub enclosing_in : List TableRow → ℕ → ℕ
enclosing_in nested row = index_of (cell_of (find (is_nested_row row) nested) 1)

abbrev pub enclosing : List Table → ℕ → ℕ
enclosing tables row = enclosing_in (rows tables 0x29) row

-- how many generic parameters a row of TypeDef or MethodDef has (II.22.20)
abbrev pub is_row_of : RowOf → ℕ → ℕ → Bool
is_row_of found table row = found.table == table && found.row == row

abbrev pub generic_count : List Table → ℕ → ℕ → ℕ
generic_count tables table row =
    count_by (λ parameter. is_row_of (coded_of (slice_get parameter.cells 2)) table row) (rows tables 0x2A)

-- ---- runs: the rows of another table that belong to a row (II.22)

-- where the run of a row begins, and where that of the next row does or the table ends; row 0 belongs to no run
abbrev pub run_begin : List Table → ℕ → ℕ → ℕ → ℕ
run_begin tables table column row = max 1 (index_of (cell_at tables table row column))

abbrev pub run_end : List Table → ℕ → ℕ → ℕ → ℕ → ℕ
run_end tables table column target row =
    if nat_lt row (row_count tables table) then run_begin tables table column (row + 1) else row_count tables target + 1

abbrev pub run : List Table → ℕ → ℕ → ℕ → ℕ → List ℕ
run tables table column target row =
    range_with_len (run_begin tables table column row)
    (run_end tables table column target row - run_begin tables table column row)

-- the rows of Field, MethodDef and Param that belong to a type or a method
abbrev pub fields_of : List Table → ℕ → List ℕ
fields_of tables = run tables 0x02 4 0x04

abbrev pub methods_of : List Table → ℕ → List ℕ
methods_of tables = run tables 0x02 5 0x06

abbrev pub params_of : List Table → ℕ → List ℕ
params_of tables = run tables 0x06 4 0x08

-- the type whose run has a row
abbrev pub has_in_run : List Table → ℕ → ℕ → ℕ → ℕ → Bool
has_in_run tables column target row type =
    nat_le (run_begin tables 0x02 column type) row && nat_lt row (run_end tables 0x02 column target type)

abbrev pub owner_in : List Table → ℕ → ℕ → ℕ → Option ℕ
owner_in tables column target row =
    find (has_in_run tables column target row) (range_with_len 1 (type_count tables))

abbrev pub owner_of_field : List Table → ℕ → Option ℕ
owner_of_field tables = owner_in tables 4 0x04

abbrev pub owner_of_method : List Table → ℕ → Option ℕ
owner_of_method tables = owner_in tables 5 0x06

-- ---- fields (II.22.15, II.23.1.5) and methods (II.22.26, II.23.1.10)

abbrev pub field_flags : List Table → ℕ → ℕ
field_flags tables row = number_of (cell_at tables 0x04 row 0)

abbrev pub field_name : List Table → ℕ → List ℕ
field_name tables row = name_of (cell_at tables 0x04 row 1)

abbrev pub field_blob : List Table → ℕ → List ℕ
field_blob tables row = blob_of (cell_at tables 0x04 row 2)

abbrev pub is_static_field : List Table → ℕ → Bool
is_static_field tables row = has_flag (field_flags tables row) 0x10

abbrev pub is_literal : List Table → ℕ → Bool
is_literal tables row = has_flag (field_flags tables row) 0x40

abbrev pub method_flags : List Table → ℕ → ℕ
method_flags tables row = number_of (cell_at tables 0x06 row 1)

abbrev pub method_name : List Table → ℕ → List ℕ
method_name tables row = name_of (cell_at tables 0x06 row 2)

abbrev pub method_blob : List Table → ℕ → List ℕ
method_blob tables row = blob_of (cell_at tables 0x06 row 3)

abbrev pub is_static : List Table → ℕ → Bool
is_static tables row = has_flag (method_flags tables row) 0x10

-- a static method isn't virtual, whatever its flags say
abbrev pub is_virtual : List Table → ℕ → Bool
is_virtual tables row = if is_static tables row then false else has_flag (method_flags tables row) 0x40

abbrev pub has_new_slot : List Table → ℕ → Bool
has_new_slot tables row = has_flag (method_flags tables row) 0x100

abbrev pub is_public_method : List Table → ℕ → Bool
is_public_method tables row = method_flags tables row % 8 == 6

-- ---- assemblies: Assembly (II.22.2), AssemblyRef (II.22.5)

abbrev pub assembly_row_name : Option TableRow → Option (List ℕ)
assembly_row_name None = None
assembly_row_name (Some row) = Some (name_of (slice_get row.cells 7))

-- the name of the module's assembly, if it has a row of Assembly
abbrev pub assembly_name : List Table → Option (List ℕ)
assembly_name tables = assembly_row_name (row_at tables 0x20 1)
