-- How many bytes a place of a type takes, and where it may begin: ECMA-335 I.12.1, I.12.6.2, II.10.7.
use Rattle.std.specs.Prelude.{ℕ, zero, suc, ◌==◌, nat_le, if◌then◌else◌, List, [], ◌∷◌, length, map, slice_index_or}
use Rattle.std.specs.Prelude.{Option, Some, None, Result, Ok, Err}
use Rattle.ty_terms.specs.declared.names.TypeId.{TypeId}
use Rattle.ty_terms.specs.declared.ty.Primitive.{Primitive}
use Rattle.ty_terms.specs.declared.ty.Primitive.TheVariants.{Void, Boolean, Char, I1, U1, I2, U2, I4, U4, I8, U8}
use Rattle.ty_terms.specs.declared.ty.Primitive.TheVariants.{String, I, U, Object}
use Rattle.ty_terms.specs.declared.ty.Ty.{Ty}
use Rattle.ty_terms.specs.declared.ty.Ty.TheOpen.{Ty-F}
use Rattle.ty_terms.specs.declared.ty.Ty.TheFolds.{fold-Ty}
use Rattle.ty_layout.specs.declared.field.Alignment.{Alignment}
use Rattle.ty_layout.specs.declared.field.Alignment.TheVariants.{One, Two, Four, Eight}
use Rattle.ty_layout.specs.declared.field.Field.{Field}
use Rattle.ty_layout.specs.Fields.{alignment_of}
use Rattle.ty_layout.specs.Objects.{boxed_bytes, value_type}
use Rattle.ty_names.specs.Modules.{World}
use Rattle.ty_load.specs.Bases.{is_value_type}
use Rattle.ty_load.specs.Cycles.{all_ids}
use Rattle.cli_layout.specs.declared.extent.Extent.{Extent}
use Rattle.cli_layout.specs.declared.extent.Extent.TheVariants.{Known, Unknown}
use Rattle.cli_layout.specs.declared.extent.Unlaid.{Unlaid}
use Rattle.cli_layout.specs.declared.extent.Unlaid.TheVariants.{TooLarge, NoBase, NoField}
use Rattle.cli_layout.specs.declared.rows.FieldRow.{FieldRow}
use Rattle.cli_layout.specs.Fields.{asked_size, placed_fields}

-- ---- numbers and references

abbrev pub bytes : ℕ → Alignment → Field
bytes size alignment = record { size = size; alignment = alignment }

abbrev pub reference : Field
reference = bytes 8 Eight

abbrev pub primitive_field : Primitive → Field
primitive_field Void = reference
primitive_field Boolean = bytes 1 One
primitive_field Char = bytes 2 Two
primitive_field I1 = bytes 1 One
primitive_field U1 = bytes 1 One
primitive_field I2 = bytes 2 Two
primitive_field U2 = bytes 2 Two
primitive_field I4 = bytes 4 Four
primitive_field U4 = bytes 4 Four
primitive_field I8 = bytes 8 Eight
primitive_field U8 = bytes 8 Eight
primitive_field String = reference
primitive_field I = bytes 8 Eight
primitive_field U = bytes 8 Eight
primitive_field Object = reference

-- ---- several at once: what leads to nothing comes first, then what is too large

abbrev pub both : {A B C : Type 0} → (A → B → C) → Result A Unlaid → Result B Unlaid → Result C Unlaid
both join (Ok a) (Ok b) = Ok (join a b)
both join (Ok a) (Err unlaid) = Err unlaid
both join (Err TooLarge) (Ok b) = Err TooLarge
both join (Err TooLarge) (Err unlaid) = Err unlaid
both join (Err (NoBase id)) b = Err (NoBase id)
both join (Err (NoField id row)) b = Err (NoField id row)

abbrev pub known : Extent → Result Field Unlaid
known (Known field) = Ok field
known (Unknown unlaid) = Err unlaid

abbrev pub all_known : List Extent → Result (List Field) Unlaid
all_known [] = Ok []
all_known (extent ∷ rest) = both (λ field fields. field ∷ fields) (known extent) (all_known rest)

-- ---- value types

abbrev pub most_bytes : ℕ
most_bytes = 65536

abbrev pub alignment_by : ℕ → Alignment
alignment_by size = if size == 1 then One else if size == 2 then Two else if size == 4 then Four else Eight

-- a value type with these fields and at least so many bytes
abbrev pub value_field : ℕ → List Field → Field
value_field least fields = bytes (value_type least fields).size (alignment_by (alignment_of fields))

-- one whose boxed value has more bytes than an object may have isn't laid
abbrev pub if_small : Field → Extent
if_small field = if nat_le (boxed_bytes field.size) most_bytes then Known field else Unknown TooLarge

abbrev pub value_extent : ℕ → Result (List Field) Unlaid → Extent
value_extent least (Ok fields) = if_small (value_field least fields)
value_extent least (Err unlaid) = Unknown unlaid

-- ---- types: those of a definition's fields get the extents of its arguments

-- one layer of a type, with the extent of each inner type in its place; of value types as they are given
abbrev pub extent_step : (TypeId → List Extent → Extent) → World → List Extent → Ty-F Extent → Extent
extent_step value world env (Ty-F.Prim primitive) = Known (primitive_field primitive)
extent_step value world env (Ty-F.Named id args) = if is_value_type world id then value id args else Known reference
extent_step value world env (Ty-F.Vector element) = Known reference
extent_step value world env (Ty-F.ByRef target) = Known reference
extent_step value world env (Ty-F.Var n) = slice_index_or env n (Known reference)
extent_step value world env (Ty-F.MVar n) = Known reference
extent_step value world env Ty-F.Canon = Known reference

abbrev pub extent_if : (Ty → Extent) → TypeId → ℕ → Option Ty → Extent
extent_if extent id row None = Unknown (NoField id row)
extent_if extent id row (Some ty) = extent ty

-- of fields of a definition
abbrev pub row_extent : (Ty → Extent) → TypeId → FieldRow → Extent
row_extent extent id field = extent_if extent id field.row field.ty

abbrev pub rows_extents : (Ty → Extent) → TypeId → List FieldRow → List Extent
rows_extents extent id fields = map (row_extent extent id) fields

-- of a type, in a definition whose arguments have these extents
abbrev pub extent_by : (TypeId → List Extent → Extent) → World → List Extent → Ty → Extent
extent_by value world env = fold-Ty Extent (extent_step value world env)

-- a value type by its definition and the extents of its arguments, over so many definitions at most
abbrev pub value_within : ℕ → World → TypeId → List Extent → Extent
value_within zero world id env = Known (bytes 1 One)
value_within (suc left) world id env =
    value_extent (asked_size world id)
    (all_known (rows_extents (extent_by (value_within left world) world env) id (placed_fields world id)))

abbrev pub extent_in : ℕ → World → List Extent → Ty → Extent
extent_in left world env = extent_by (value_within left world) world env

-- No value type lies within itself, so within one are no more definitions than the world has.
abbrev pub most_within : World → ℕ
most_within world = length (all_ids world)

abbrev pub extent_with : World → List Extent → Ty → Extent
extent_with world env = extent_in (most_within world) world env

-- of a place of a type: how many bytes it takes and where it may begin, or why that isn't known
unfoldable pub extent_of : World → Ty → Extent
extent_of world ty = extent_with world [] ty
