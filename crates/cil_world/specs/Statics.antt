-- What static fields begin with: ECMA-335 II.10.5.3, II.16.3.1, II.22.18.
use Rattle.std.specs.Prelude.{ℕ, zero, suc, ◌==◌, Bool, true, false, ℤ, pos}
use Rattle.std.specs.Prelude.{if◌then◌else◌, List, map, find, take, drop, slice_get, zip, Option}
use Rattle.std.specs.Prelude.{codes, Some, None}
use Rattle.std.specs.List.{list_all}
use Rattle.std.specs.Option.{option_map, option_map_or, option_and_then}
use Rattle.byteorder.specs.Endian.{little_number}
use Rattle.num_core.specs.declared.kind.Kind.TheVariants.{I4, I8}
use Rattle.num_core.specs.declared.kind.Narrow.{Narrow}
use Rattle.num_core.specs.Integers.{held, wrapped_to_type}
use Rattle.md_tables.specs.declared.module.Table.{Table}
use Rattle.ty_terms.specs.declared.names.FieldName.{FieldName}
use Rattle.ty_terms.specs.declared.ty.Ty.{Ty}
use Rattle.ty_layout.specs.declared.field.Alignment.TheVariants.{One, Two, Four, Eight}
use Rattle.ty_layout.specs.declared.field.Field.{Field}
use Rattle.ty_names.specs.Modules.{World, tables_at, rows, blob_of, index_of}
use Rattle.ty_load.specs.Primitives.{definition_of}
use Rattle.ty_load.specs.Members.{same_type}
use Rattle.cli_layout.specs.Extents.{bytes as sized, reference, value_field}
use Rattle.cli_layout.specs.Fields.{asked_size}
use Rattle.il_verify.specs.Actions.{Integer, Sized, Native}
use Rattle.il_verify.specs.Kinds.{Content, Number, Object, Compound, Pointing, NoContent, content_of}
use Rattle.il_verify.specs.Scope.{member_of, system}
use Rattle.cil_world.specs.Contents.{deepest, own_fields, field_places, zero_of}
use Rattle.cil_world.specs.Values.{Value, Null, Nowhere, values, none}

-- ---- bytes of fields: FieldRVA

abbrev pub bytes_in : List Table → ℕ → Option (List ℕ)
bytes_in tables row =
    option_map (λ found. blob_of (slice_get found.cells 0))
    (find (λ found. index_of (slice_get found.cells 1) == row) (rows tables 0x1D))

-- How many bytes a value takes, and at which multiples of what it may begin, of whatever size it is: a field that only
-- stands for bytes may have more than an object.
abbrev pub number_field : Integer → Field
number_field (Sized Narrow.I1) = sized 1 One
number_field (Sized Narrow.U1) = sized 1 One
number_field (Sized Narrow.I2) = sized 2 Two
number_field (Sized Narrow.U2) = sized 2 Two
number_field (Sized Narrow.I4) = sized 4 Four
number_field (Sized Narrow.U4) = sized 4 Four
number_field (Sized Narrow.I8) = sized 8 Eight
number_field (Sized Narrow.U8) = sized 8 Eight
number_field (Native sign) = sized 8 Eight

abbrev pub whole_within : ℕ → World → Content → Field
whole_within left world (Number integer) = number_field integer
whole_within left world Object = reference
whole_within left world (Pointing target) = reference
whole_within left world NoContent = reference
whole_within zero world (Compound ty) = sized 1 One
whole_within (suc left) world (Compound ty) =
    value_field (option_map_or (asked_size world) (definition_of world ty) 0)
    (map (λ field. whole_within left world (content_of world field)) (own_fields world ty))

abbrev pub whole_size : World → Ty → ℕ
whole_size world ty = (whole_within (deepest world ty) world (content_of world ty)).size

-- the first bytes of a field's row, as many as its type has
abbrev pub field_bytes : World → FieldName → Option (List ℕ)
field_bytes world name =
    option_and_then (λ member. option_and_then (λ id.
    option_map (take (whole_size world member.ty)) (bytes_in (tables_at world id.module) name.row))
    (definition_of world name.owner)) (member_of world name)

-- ---- values from bytes, the lowest byte first; bytes that are missing are zeros

abbrev pub number_from : ℕ → List ℕ → ℤ
number_from count bytes = pos (little_number count bytes)

abbrev pub integer_from : Integer → List ℕ → Value
integer_from (Sized Narrow.I1) bytes = Value.Int32 (wrapped_to_type Narrow.I1 (number_from 1 bytes))
integer_from (Sized Narrow.U1) bytes = Value.Int32 (wrapped_to_type Narrow.U1 (number_from 1 bytes))
integer_from (Sized Narrow.I2) bytes = Value.Int32 (wrapped_to_type Narrow.I2 (number_from 2 bytes))
integer_from (Sized Narrow.U2) bytes = Value.Int32 (wrapped_to_type Narrow.U2 (number_from 2 bytes))
integer_from (Sized Narrow.I4) bytes = Value.Int32 (held I4 (number_from 4 bytes))
integer_from (Sized Narrow.U4) bytes = Value.Int32 (held I4 (number_from 4 bytes))
integer_from (Sized Narrow.I8) bytes = Value.Int64 (held I8 (number_from 8 bytes))
integer_from (Sized Narrow.U8) bytes = Value.Int64 (held I8 (number_from 8 bytes))
integer_from (Native sign) bytes = Value.NativeInt (held I8 (number_from 8 bytes))

abbrev pub value_within : ℕ → World → Content → List ℕ → Value
value_within left world (Number integer) bytes = integer_from integer bytes
value_within left world Object bytes = Value.Object Null
value_within left world (Pointing target) bytes = Value.Address Nowhere
value_within left world NoContent bytes = Value.Object Null
value_within zero world (Compound ty) bytes = Value.Compound none
value_within (suc left) world (Compound ty) bytes =
    Value.Compound (values (map (λ field. value_within left world (content_of world field.0) (drop field.1 bytes))
    (zip (own_fields world ty) (field_places world ty))))

-- the handle of a field (II.22.18)
abbrev pub is_field_handle : World → Ty → Bool
is_field_handle world ty =
    option_map_or (same_type ty) (system world (codes "RuntimeFieldHandle")) false

-- a type whose values hold no reference; the handle of a field counts as one
abbrev pub is_plain_within : ℕ → World → Content → Bool
is_plain_within left world (Number integer) = true
is_plain_within left world Object = false
is_plain_within left world (Pointing target) = false
is_plain_within left world NoContent = false
is_plain_within zero world (Compound ty) = false
is_plain_within (suc left) world (Compound ty) =
    if is_field_handle world ty then false
    else list_all (λ field. is_plain_within left world (content_of world field)) (own_fields world ty)

abbrev pub is_plain : World → Ty → Bool
is_plain world ty = is_plain_within (deepest world ty) world (content_of world ty)

-- ---- what a static begins with: the bytes of its field, or zeros

abbrev pub from_bytes : World → Ty → Option (List ℕ) → Value
from_bytes world ty None = zero_of world ty
from_bytes world ty (Some bytes) =
    if is_plain world ty then value_within (deepest world ty) world (content_of world ty) bytes else zero_of world ty

abbrev pub first_static : World → FieldName → Option Value
first_static world name =
    option_map (λ member. from_bytes world member.ty (field_bytes world name)) (member_of world name)
