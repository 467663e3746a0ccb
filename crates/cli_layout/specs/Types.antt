-- Where the fields of an object, of a value and of a type's statics lie: ECMA-335 I.12.6.2, II.10.1.2, II.10.7,
-- II.14.2.
use Rattle.std.specs.Prelude.{ℕ, zero, suc, nat_le, if◌then◌else◌, List, [], ◌∷◌, ◌++◌, map, Option}
use Rattle.std.specs.Prelude.{Some, None, Result, Ok, Err}
use Rattle.std.specs.List.{flat_map}
use Rattle.std.specs.Option.{option_map_or}
use Rattle.ty_terms.specs.declared.names.TypeId.{TypeId}
use Rattle.ty_terms.specs.declared.ty.Primitive.{Primitive}
use Rattle.ty_terms.specs.declared.ty.Primitive.TheVariants.{String, Object}
use Rattle.ty_terms.specs.declared.ty.Ty.{Ty}
use Rattle.ty_terms.specs.declared.ty.Ty.TheOpen.{Ty-F}
use Rattle.ty_terms.specs.declared.ty.Ty.TheViews.{out-Ty}
use Rattle.ty_layout.specs.declared.field.Field.{Field}
use Rattle.ty_layout.specs.declared.laid.Laid.{Laid}
use Rattle.ty_layout.specs.Objects.{boxed_bytes, object, string_bytes, value_type, vector_bytes}
use Rattle.ty_names.specs.Modules.{World}
use Rattle.ty_load.specs.declared.fault.ResolveFault.{ResolveFault}
use Rattle.ty_load.specs.Bases.{is_value_type}
use Rattle.ty_load.specs.Primitives.{definition_of}
use Rattle.ty_load.specs.Walks.{arguments, base_by}
use Rattle.cli_layout.specs.declared.extent.Extent.{Extent}
use Rattle.cli_layout.specs.declared.extent.Unlaid.{Unlaid}
use Rattle.cli_layout.specs.declared.extent.Unlaid.TheVariants.{TooLarge, NoBase}
use Rattle.cli_layout.specs.Extents.{all_known, both, extent_with, most_bytes, most_within}
use Rattle.cli_layout.specs.Extents.{primitive_field, rows_extents}
use Rattle.cli_layout.specs.declared.rows.FieldRow.{FieldRow}
use Rattle.cli_layout.specs.declared.rows.TypeLayout.{TypeLayout}
use Rattle.cli_layout.specs.Fields.{asked_size, placed_fields, static_fields}

-- some fields of a definition, for these extents of its arguments
abbrev pub fields_in : World → List Extent → TypeId → List FieldRow → Result (List Field) Unlaid
fields_in world env id fields = all_known (rows_extents (extent_with world env) id fields)

-- ---- the classes of an object, the topmost base first

abbrev pub under : List Field → List (List Field) → List (List Field)
under part above = above ++ (part ∷ [])

abbrev pub parts_above : (TypeId → List Extent → Result (List (List Field)) Unlaid) → World → List Extent → TypeId
    → Result (Option Ty) ResolveFault → Result (List (List Field)) Unlaid
parts_above parts world env id (Err fault) = Err (NoBase id)
parts_above parts world env id (Ok None) = Ok []
parts_above parts world env id (Ok (Some base)) =
    option_map_or (λ above. parts above (map (extent_with world env) (arguments base))) (definition_of world base)
    (Ok [])

abbrev pub parts_within : ℕ → World → TypeId → List Extent → Result (List (List Field)) Unlaid
parts_within zero world id env = Ok []
parts_within (suc left) world id env =
    both under (fields_in world env id (placed_fields world id))
    (parts_above (parts_within left world) world env id (base_by world id))

abbrev pub parts_over : ℕ → World → List Extent → TypeId → Result (List (List Field)) Unlaid
parts_over left world env id = parts_above (parts_within left world) world env id (base_by world id)

abbrev pub arguments_of : World → Ty → List Extent
arguments_of world ty = map (extent_with world []) (arguments ty)

-- above a definition are no more than the world has
abbrev pub class_parts : World → Ty → TypeId → Result (List (List Field)) Unlaid
class_parts world ty id = parts_within (most_within world) world id (arguments_of world ty)

-- ---- what is laid: the object of a class, a value, or what has no fields

abbrev pub bare : ℕ → TypeLayout
bare size = record { fields = []; laid = record { places = []; size = size } }

-- fields with their places
abbrev pub with_fields : List Field → Laid → TypeLayout
with_fields fields laid = record { fields = fields; laid = laid }

-- one whose object has more bytes than an object may have isn't laid
abbrev pub within : (ℕ → ℕ) → TypeLayout → Result TypeLayout Unlaid
within in_object layout = if nat_le (in_object layout.laid.size) most_bytes then Ok layout else Err TooLarge

abbrev pub laid_if : {A : Type 0} → (ℕ → ℕ) → (A → TypeLayout) → Result A Unlaid → Result TypeLayout Unlaid
laid_if in_object lay (Err unlaid) = Err unlaid
laid_if in_object lay (Ok parts) = within in_object (lay parts)

abbrev pub itself : ℕ → ℕ
itself size = size

abbrev pub object_with : List (List Field) → TypeLayout
object_with parts = with_fields (flat_map (λ part. part) parts) (object parts)

abbrev pub value_with : ℕ → List Field → TypeLayout
value_with least fields = with_fields fields (value_type least fields)

abbrev pub class_laid : World → Ty → TypeId → Result TypeLayout Unlaid
class_laid world ty id = laid_if itself object_with (class_parts world ty id)

-- a value, which lies in an object where it is boxed
abbrev pub value_laid : World → Ty → TypeId → Result TypeLayout Unlaid
value_laid world ty id =
    laid_if boxed_bytes (value_with (asked_size world id))
    (fields_in world (arguments_of world ty) id (placed_fields world id))

abbrev pub primitive_laid : World → Ty → Primitive → Result TypeLayout Unlaid
primitive_laid world ty String = Ok (bare (string_bytes 0))
primitive_laid world ty Object = option_map_or (class_laid world ty) (definition_of world ty) (Ok (bare 8))
primitive_laid world ty primitive = Ok (bare (primitive_field primitive).size)

abbrev pub laid_layer : {A : Type 0} → World → Ty → Ty-F A → Result TypeLayout Unlaid
laid_layer world ty (Ty-F.Prim primitive) = primitive_laid world ty primitive
laid_layer world ty (Ty-F.Named id args) =
    if is_value_type world id then value_laid world ty id else class_laid world ty id
laid_layer world ty (Ty-F.Vector element) = Ok (bare (vector_bytes 0 0))
laid_layer world ty (Ty-F.ByRef target) = Ok (bare 8)
laid_layer world ty (Ty-F.Var n) = Ok (bare 8)
laid_layer world ty (Ty-F.MVar n) = Ok (bare 8)
laid_layer world ty Ty-F.Canon = Ok (bare 8)

-- An object of a type without elements, or a value of a value type: its fields in declared order, those of the topmost
-- base first, and its bytes. It is laid where its object, of a value type the boxed value, has at most 65,536 bytes,
-- and
-- its bases and the types of its fields lead to something.
unfoldable pub laid_of : World → Ty → Result TypeLayout Unlaid
laid_of world ty = laid_layer world ty (out-Ty ty)

-- the static fields of a type lie as the fields of one object do
abbrev pub one_part : List Field → TypeLayout
one_part fields = object_with (fields ∷ [])

abbrev pub statics_laid : World → Ty → TypeId → Result TypeLayout Unlaid
statics_laid world ty id =
    laid_if itself one_part (fields_in world (arguments_of world ty) id (static_fields world id))

abbrev pub statics_in : World → Ty → Option TypeId → Result TypeLayout Unlaid
statics_in world ty None = Ok (bare 8)
statics_in world ty (Some id) = statics_laid world ty id

unfoldable pub statics_of : World → Ty → Result TypeLayout Unlaid
statics_of world ty = statics_in world ty (definition_of world ty)
