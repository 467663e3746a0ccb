-- Which fields have a place, and how large a type asks to be: ECMA-335 II.10.7, II.16.1, II.22.8, II.22.15.
use Rattle.std.specs.Prelude.{ℕ, ◌==◌, ◌&&◌, not, List, filter, find, map, slice_get}
use Rattle.std.specs.Option.{option_map_or}
use Rattle.md_tables.specs.declared.module.Table.{Table}
use Rattle.ty_terms.specs.declared.names.TypeId.{TypeId}
use Rattle.ty_names.specs.Modules.{World, tables_at, rows, index_of, number_of}
use Rattle.ty_names.specs.Definitions.{fields_of, is_static_field, is_literal}
use Rattle.ty_load.specs.Cycles.{instance_fields}
use Rattle.ty_load.specs.Members.{field_sig}
use Rattle.cli_layout.specs.declared.rows.FieldRow.{FieldRow}

-- the instance fields of a definition and its static ones, in declared order; a literal has no place
abbrev pub placed_rows : World → TypeId → List ℕ
placed_rows world id = filter (λ row. not (is_literal (tables_at world id.module) row)) (instance_fields world id)

abbrev pub static_rows : World → TypeId → List ℕ
static_rows world id =
    let tables = tables_at world id.module in
    filter (λ row. is_static_field tables row && not (is_literal tables row)) (fields_of tables id.row)

-- a field and its type, in the variables of the type that has it
abbrev pub field_row : World → TypeId → ℕ → FieldRow
field_row world id row = record { row = row; ty = field_sig world id row }

abbrev pub placed_fields : World → TypeId → List FieldRow
placed_fields world id = map (field_row world id) (placed_rows world id)

abbrev pub static_fields : World → TypeId → List FieldRow
static_fields world id = map (field_row world id) (static_rows world id)

-- the size that a row of ClassLayout asks for, or 0; the packing isn't looked at
abbrev pub asked_in : List Table → ℕ → ℕ
asked_in tables row =
    option_map_or (λ found. number_of (slice_get found.cells 1))
    (find (λ found. index_of (slice_get found.cells 2) == row) (rows tables 0x0F)) 0

abbrev pub asked_size : World → TypeId → ℕ
asked_size world id = asked_in (tables_at world id.module) id.row
