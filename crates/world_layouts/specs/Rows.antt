-- The fields of a type that have a place, one after another.
use Rattle.std.specs.Prelude.{ℕ, Bool, true, false, not, List, [], ◌∷◌, cond, filter, map}
use Rattle.ty_terms.specs.declared.names.TypeId.{TypeId}
use Rattle.ty_names.specs.Modules.{World, tables_at}
use Rattle.ty_names.specs.Definitions.{is_literal, is_static_field}
use Rattle.cli_layout.specs.declared.rows.FieldRow.{FieldRow}
use Rattle.cli_layout.specs.Fields.{field_row}

-- among static fields, or among those of instances
abbrev pub has_place : World → TypeId → Bool → ℕ → Bool
has_place world id true row =
    cond (is_literal (tables_at world id.module) row) false (is_static_field (tables_at world id.module) row)
has_place world id false row =
    cond (is_literal (tables_at world id.module) row) false (not (is_static_field (tables_at world id.module) row))

abbrev pub placed_if : World → TypeId → Bool → ℕ → List FieldRow
placed_if world id static row = cond (has_place world id static row) (field_row world id row ∷ []) []

abbrev pub placed_among : World → TypeId → Bool → List ℕ → List FieldRow
placed_among world id static rows = map (field_row world id) (filter (has_place world id static) rows)
