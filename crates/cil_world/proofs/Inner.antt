-- The fields of an Exception, in every world over the core of core_lib: by its tables, which compute.
use Rattle.std.proofs.Common.{◌≡◌, ◌∙◌, ℕ, List, [], ◌∷◌, Some, ap, filter, map, not, refl, slice_get, sym}
use Rattle.std.specs.Prelude.{codes}
use Rattle.std.specs.Option.{option_and_then, option_map}
use Rattle.md_tables.specs.declared.module.Table.{Table}
use Rattle.core_lib.specs.Classes.{classes}
use Rattle.core_lib.specs.Rows.{core}
use Rattle.ty_names.specs.Modules.{World, core_of, tables_at}
use Rattle.ty_names.specs.Definitions.{field_name, fields_of, is_literal, is_static_field, type_extends}
use Rattle.ty_names.specs.References.{id_of, type_row}
use Rattle.ty_load.specs.Primitives.{system_type}
use Rattle.cli_layout.specs.Fields.{placed_rows}
use Rattle.cil_world.specs.Step.{inner_field}

-- ---- the rows of the core

exception_row : type_row core.tables 0 (codes "System") (codes "Exception") ≡ Some 25
unfolding core classes
exception_row = refl

object_row : type_row core.tables 0 (codes "System") (codes "Object") ≡ Some 2
unfolding core classes
object_row = refl

-- the instance fields of a row
abbrev placed : List Table → ℕ → List ℕ
placed tables row =
    filter (λ field. not (is_literal tables field))
    (filter (λ field. not (is_static_field tables field)) (fields_of tables row))

exception_fields : map (field_name core.tables) (placed core.tables 25)
    ≡ codes "_message" ∷ codes "_inner" ∷ []
unfolding core classes
exception_fields = refl

object_fields : placed core.tables 2 ≡ []
unfolding core classes
object_fields = refl

exception_base : type_extends core.tables 25 ≡ record { table = 0x02; row = 2 }
unfolding core classes
exception_base = refl

object_base : type_extends core.tables 2 ≡ record { table = 0x02; row = 0 }
unfolding core classes
object_base = refl

-- ---- in a world over it

module _ (world : World) (over : tables_at world (core_of world) ≡ core.tables) where
  exception_is : system_type world (codes "Exception") ≡ Some (id_of (core_of world) 25)
  exception_is =
      ap (λ tables. option_map (id_of (core_of world)) (type_row tables 0 (codes "System") (codes "Exception"))) over
      ∙ ap (option_map (id_of (core_of world))) exception_row

  object_is : system_type world (codes "Object") ≡ Some (id_of (core_of world) 2)
  object_is =
      ap (λ tables. option_map (id_of (core_of world)) (type_row tables 0 (codes "System") (codes "Object"))) over
      ∙ ap (option_map (id_of (core_of world))) object_row

  pub inner : option_and_then (λ id. slice_get (map (field_name (tables_at world id.module)) (placed_rows world id))
      inner_field) (system_type world (codes "Exception")) ≡ Some (codes "_inner")
  inner =
      ap (option_and_then (λ id. slice_get (map (field_name (tables_at world id.module)) (placed_rows world id))
      inner_field)) exception_is
      ∙ ap (λ tables. slice_get (map (field_name tables) (placed tables 25)) inner_field) over
      ∙ ap (λ names. slice_get names inner_field) exception_fields

  pub above : (option_map (λ id. (type_extends (tables_at world id.module) id.row).table)
      (system_type world (codes "Exception")) ≡ Some 0x02)
      × (option_map (λ id. (type_extends (tables_at world id.module) id.row).row)
      (system_type world (codes "Exception")) ≡ option_map (λ id. id.row) (system_type world (codes "Object")))
  above = (
    ap (option_map (λ id. (type_extends (tables_at world id.module) id.row).table)) exception_is
        ∙ ap (λ tables. Some (type_extends tables 25).table) over
        ∙ ap (λ base. Some base.table) exception_base,
    ap (option_map (λ id. (type_extends (tables_at world id.module) id.row).row)) exception_is
        ∙ ap (λ tables. Some (type_extends tables 25).row) over
        ∙ ap (λ base. Some base.row) exception_base
        ∙ sym (ap (option_map (λ id. id.row)) object_is),
  )

  pub topmost : option_map (λ id. (type_extends (tables_at world id.module) id.row).row)
      (system_type world (codes "Object")) ≡ Some 0
  topmost =
      ap (option_map (λ id. (type_extends (tables_at world id.module) id.row).row)) object_is
      ∙ ap (λ tables. Some (type_extends tables 2).row) over
      ∙ ap (λ base. Some base.row) object_base

  pub without : option_map (placed_rows world) (system_type world (codes "Object")) ≡ Some []
  without =
      ap (option_map (placed_rows world)) object_is
      ∙ ap (λ tables. Some (placed tables 2)) over
      ∙ ap Some object_fields
