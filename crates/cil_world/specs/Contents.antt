-- What places of types begin with, how many bytes they take, and what storing does to a value: ECMA-335 I.12.1.2,
-- I.12.1.6, II.10.7, II.22.8.
use Rattle.std.specs.Prelude.{ℕ, zero, suc, ◌+◌, ◌*◌, ◌^◌, pos, List, [], map}
use Rattle.std.specs.Prelude.{length, sum_by, filter_map, Result, Ok, Err}
use Rattle.std.specs.List.{flat_map}
use Rattle.std.specs.Option.{option_map_or}
use Rattle.num_core.specs.declared.kind.Narrow.{Narrow}
use Rattle.num_core.specs.declared.kind.Narrow.TheVariants.{I1, U1, I2, U2}
use Rattle.num_core.specs.Integers.{wrapped_to_type}
use Rattle.ty_terms.specs.declared.names.TypeId.{TypeId}
use Rattle.ty_terms.specs.declared.ty.Ty.{Ty}
use Rattle.ty_terms.specs.Depth.{depth_of}
use Rattle.ty_terms.specs.Subst.{substituted}
use Rattle.ty_layout.specs.Objects.{boxed_bytes, vector_bytes}
use Rattle.ty_names.specs.Modules.{World}
use Rattle.ty_load.specs.Classes.{classes_of}
use Rattle.ty_load.specs.Primitives.{definition_of}
use Rattle.ty_load.specs.Cycles.{all_ids}
use Rattle.ty_load.specs.Members.{field_sig}
use Rattle.ty_load.specs.Walks.{arguments}
use Rattle.cli_layout.specs.declared.extent.Extent.{Extent}
use Rattle.cli_layout.specs.declared.extent.Extent.TheVariants.{Known, Unknown}
use Rattle.cli_layout.specs.declared.extent.Unlaid.{Unlaid}
use Rattle.cli_layout.specs.declared.rows.TypeLayout.{TypeLayout}
use Rattle.cli_layout.specs.Extents.{extent_of}
use Rattle.cli_layout.specs.Fields.{placed_rows}
use Rattle.cli_layout.specs.Types.{laid_of}
use Rattle.il_verify.specs.Actions.{Integer, Sized, Native}
use Rattle.il_verify.specs.Kinds.{Content, Number, Object, Compound, Pointing, NoContent, content_of}
use Rattle.cil_world.specs.Values.{Value, Null, Nowhere, values, none}

-- ---- the fields of types

abbrev pub fields_with : World → Ty → TypeId → List Ty
fields_with world ty id =
    map (substituted (arguments ty) []) (filter_map (field_sig world id) (placed_rows world id))

-- the types of the instance fields that a type declares itself, in declared order
abbrev pub own_fields : World → Ty → List Ty
own_fields world ty = option_map_or (fields_with world ty) (definition_of world ty) []

-- the types of the instance fields of an object of a class, class by class, the topmost first
abbrev pub object_fields : World → Ty → List Ty
object_fields world ty = flat_map (own_fields world) (classes_of world ty)

-- how deep the types of a definition's instance fields are, all in all
abbrev pub field_depths : World → TypeId → ℕ
field_depths world id = sum_by depth_of (filter_map (field_sig world id) (placed_rows world id))

-- A bound on how deep value types nest within one. None lies within itself, so the definitions have an order, and a
-- layer of each has no more layers of those below it than its fields' types have.
abbrev pub deepest : World → Ty → ℕ
deepest world ty = (1 + depth_of ty) * (1 + sum_by (field_depths world) (all_ids world)) ^ length (all_ids world)

-- ---- zeros

abbrev pub zero_number : Integer → Value
zero_number (Sized Narrow.I8) = Value.Int64 (pos 0)
zero_number (Sized Narrow.U8) = Value.Int64 (pos 0)
zero_number (Sized narrow) = Value.Int32 (pos 0)
zero_number (Native sign) = Value.NativeInt (pos 0)

abbrev pub zero_within : ℕ → World → Content → Value
zero_within left world (Number integer) = zero_number integer
zero_within left world Object = Value.Object Null
zero_within left world (Pointing target) = Value.Address Nowhere
zero_within left world NoContent = Value.Object Null
zero_within zero world (Compound ty) = Value.Compound none
zero_within (suc left) world (Compound ty) =
    Value.Compound (values (map (λ field. zero_within left world (content_of world field)) (own_fields world ty)))

-- what a place of a type holds before anything is stored
abbrev pub zero_of : World → Ty → Value
zero_of world ty = zero_within (deepest world ty) world (content_of world ty)

-- ---- storing: a small number is cut to its type, and an int32 becomes a native int where one is kept

abbrev pub cut : Integer → Value → Value
cut (Sized Narrow.I1) (Value.Int32 n) = Value.Int32 (wrapped_to_type I1 n)
cut (Sized Narrow.U1) (Value.Int32 n) = Value.Int32 (wrapped_to_type U1 n)
cut (Sized Narrow.I2) (Value.Int32 n) = Value.Int32 (wrapped_to_type I2 n)
cut (Sized Narrow.U2) (Value.Int32 n) = Value.Int32 (wrapped_to_type U2 n)
cut (Native sign) (Value.Int32 n) = Value.NativeInt n
cut _ value = value

abbrev pub stored_content : Content → Value → Value
stored_content (Number integer) value = cut integer value
stored_content _ value = value

-- a value as a place of a type keeps it
abbrev pub stored : World → Ty → Value → Value
stored world ty value = stored_content (content_of world ty) value

-- ---- bytes: those of what isn't laid out are never asked for

abbrev pub size_if : Extent → ℕ
size_if (Known field) = field.size
size_if (Unknown unlaid) = 0

-- how many bytes a place of a type takes
abbrev pub size_of : World → Ty → ℕ
size_of world ty = size_if (extent_of world ty)

abbrev pub bytes_if : Result TypeLayout Unlaid → ℕ
bytes_if (Ok layout) = layout.laid.size
bytes_if (Err unlaid) = 0

-- the bytes of an object of a class, of a boxed value, and of a vector of so many elements
abbrev pub class_bytes : World → Ty → ℕ
class_bytes world ty = bytes_if (laid_of world ty)

abbrev pub box_bytes : World → Ty → ℕ
box_bytes world ty = boxed_bytes (size_of world ty)

abbrev pub elements_bytes : World → Ty → ℕ → ℕ
elements_bytes world element count = vector_bytes count (size_of world element)

-- the places of the instance fields of a value, from its first byte
abbrev pub places_if : Result TypeLayout Unlaid → List ℕ
places_if (Ok layout) = layout.laid.places
places_if (Err unlaid) = []

abbrev pub field_places : World → Ty → List ℕ
field_places world ty = places_if (laid_of world ty)
