-- Slots for the values of types, and what may be stored where: ECMA-335 I.12.1, III.1.8.1.2.3 and III.1.8.1.3.
use Rattle.std.specs.Prelude.{ℕ, ◌==◌, Bool, true, false, not, if◌then◌else◌, List, [], ◌∷◌, filter, codes, Option}
use Rattle.std.specs.Prelude.{Some, None, Result, Ok, Err}
use Rattle.std.specs.List.{list_all}
use Rattle.num_core.specs.declared.kind.Narrow.{Narrow}
use Rattle.num_core.specs.declared.kind.Narrow.TheVariants.{I1, U1, I2, U2, I4, U4, I8, U8}
use Rattle.ty_terms.specs.declared.names.TypeId.{TypeId}
use Rattle.ty_terms.specs.declared.ty.Primitive.{Primitive}
use Rattle.ty_terms.specs.declared.ty.Ty.{Ty}
use Rattle.ty_terms.specs.declared.ty.Ty.TheOpen.{Ty-F}
use Rattle.ty_terms.specs.declared.ty.Ty.TheViews.{out-Ty}
use Rattle.ty_load.specs.declared.fault.ResolveFault.{ResolveFault}
use Rattle.ty_names.specs.Definitions.{is_literal}
use Rattle.ty_names.specs.Modules.{World, tables_at}
use Rattle.ty_load.specs.Primitives.{system_type}
use Rattle.ty_load.specs.Bases.{is_id, is_value_type, named_base_definition, closed_if}
use Rattle.ty_load.specs.Cycles.{instance_fields}
use Rattle.ty_load.specs.Members.{field_sig}
use Rattle.il_stacks.specs.Types.{same_type}
use Rattle.ty_load.specs.Walks.{fitting}
use Rattle.il_verify.specs.Actions.{Signed, Unsigned, Integer, Sized, Native, Access, Whole, Reference}
use Rattle.il_stacks.specs.declared.slot.StackSlot.{StackSlot}
use Rattle.il_stacks.specs.declared.slot.StackSlot.TheVariants.{Int32, Int64, NativeInt, Refs, Pointer, Value, Conflict}

-- ---- fitting

abbrev pub is_yes : Result Bool ResolveFault → Bool
is_yes (Ok answer) = answer
is_yes (Err fault) = false

-- whether a type, boxed where it is a value type, fits another; over what leads to nothing it doesn't
abbrev pub fits : World → Ty → Ty → Bool
fits world from to = is_yes (fitting world from to)

abbrev pub all_fit : World → List Ty → Ty → Bool
all_fit world types to = list_all (λ from. fits world from to) types

-- ---- what stands in a place

-- A whole number of a type, a reference, a value of a value type, a pointer, or nothing that a program can have.
pub data Content : Type 0 where
  Number : Integer → Content
  Object : Content
  Compound : Ty → Content
  Pointing : Ty → Content
  NoContent : Content

abbrev pub content_of_primitive : Primitive → Content
content_of_primitive Primitive.Void = NoContent
content_of_primitive Primitive.Boolean = Number (Sized U1)
content_of_primitive Primitive.Char = Number (Sized U2)
content_of_primitive Primitive.I1 = Number (Sized I1)
content_of_primitive Primitive.U1 = Number (Sized U1)
content_of_primitive Primitive.I2 = Number (Sized I2)
content_of_primitive Primitive.U2 = Number (Sized U2)
content_of_primitive Primitive.I4 = Number (Sized I4)
content_of_primitive Primitive.U4 = Number (Sized U4)
content_of_primitive Primitive.I8 = Number (Sized I8)
content_of_primitive Primitive.U8 = Number (Sized U8)
content_of_primitive Primitive.String = Object
content_of_primitive Primitive.I = Number (Native Signed)
content_of_primitive Primitive.U = Number (Native Unsigned)
content_of_primitive Primitive.Object = Object

-- the whole number in the one field of an enum, if this is its type
abbrev pub if_number : Ty → Content → Content
if_number ty (Number integer) = Number integer
if_number ty _ = Compound ty

abbrev pub content_of_field_layer : Ty → Ty-F Ty → Content
content_of_field_layer ty (Ty-F.Prim primitive) = if_number ty (content_of_primitive primitive)
content_of_field_layer ty _ = Compound ty

abbrev pub content_of_field : Ty → Option Ty → Content
content_of_field ty None = Compound ty
content_of_field ty (Some field) = content_of_field_layer ty (out-Ty field)

-- with exactly one instance field
abbrev pub content_by_fields : World → Ty → TypeId → List ℕ → Content
content_by_fields world ty id (row ∷ []) = content_of_field ty (field_sig world id row)
content_by_fields world ty id _ = Compound ty

abbrev pub is_enum : World → TypeId → Bool
is_enum world id =
    closed_if (λ base. is_id base (system_type world (codes "Enum"))) (named_base_definition world id)

-- the instance fields that have a place: a literal one has none (II.16.1.2)
abbrev pub placed_fields : World → TypeId → List ℕ
placed_fields world id = filter (λ row. not (is_literal (tables_at world id.module) row)) (instance_fields world id)

-- An enum, which extends System.Enum and has one instance field, of an integer type, is as that field (I.8.5.2).
abbrev pub content_of_named : World → Ty → TypeId → Content
content_of_named world ty id =
    if not (is_value_type world id) then Object
    else if is_enum world id then content_by_fields world ty id (placed_fields world id)
    else Compound ty

abbrev pub content_of_layer : World → Ty → Ty-F Ty → Content
content_of_layer world ty (Ty-F.Prim primitive) = content_of_primitive primitive
content_of_layer world ty (Ty-F.Named id args) = content_of_named world ty id
content_of_layer world ty (Ty-F.Vector element) = Object
content_of_layer world ty (Ty-F.ByRef target) = Pointing target
content_of_layer world ty Ty-F.Canon = Object
content_of_layer world ty _ = NoContent

-- what stands in a place of a type; `Canon` stands for any type of references
abbrev pub content_of : World → Ty → Content
content_of world ty = content_of_layer world ty (out-Ty ty)

-- a type whose values aren't references
abbrev pub is_value_content : Content → Bool
is_value_content (Number integer) = true
is_value_content Object = false
is_value_content (Compound ty) = true
is_value_content (Pointing target) = false
is_value_content NoContent = false

abbrev pub is_value : World → Ty → Bool
is_value world ty = is_value_content (content_of world ty)

abbrev pub is_reference_content : Content → Bool
is_reference_content Object = true
is_reference_content _ = false

abbrev pub is_reference : World → Ty → Bool
is_reference world ty = is_reference_content (content_of world ty)

-- ---- width and kind: signs, truth values and characters aside; a native int is no int64

abbrev pub bits : Narrow → ℕ
bits I1 = 8
bits U1 = 8
bits I2 = 16
bits U2 = 16
bits I4 = 32
bits U4 = 32
bits I8 = 64
bits U8 = 64

abbrev pub is_alike_integer : Integer → Integer → Bool
is_alike_integer (Sized a) (Sized b) = bits a == bits b
is_alike_integer (Native a) (Native b) = true
is_alike_integer _ _ = false

-- the places of two types hold what has one width and kind; all references are one kind
abbrev pub is_alike : Content → Content → Bool
is_alike (Number a) (Number b) = is_alike_integer a b
is_alike Object Object = true
is_alike (Compound a) (Compound b) = same_type a b
is_alike _ _ = false

abbrev pub content_of_access : Access → Content
content_of_access (Whole integer) = Number integer
content_of_access Reference = Object

-- ---- slots

-- the slot of a number of a type: small ones are widened (I.12.1.2)
abbrev pub slot_of_integer : Integer → StackSlot
slot_of_integer (Sized I8) = Int64
slot_of_integer (Sized U8) = Int64
slot_of_integer (Sized narrow) = Int32
slot_of_integer (Native sign) = NativeInt

abbrev pub slot_of_content : Ty → Content → StackSlot
slot_of_content ty (Number integer) = slot_of_integer integer
slot_of_content ty Object = Refs (ty ∷ [])
slot_of_content ty (Compound value) = Value value
slot_of_content ty (Pointing target) = Pointer target
slot_of_content ty NoContent = Conflict

-- the slot into which a value of a type is loaded
abbrev pub slot_of : World → Ty → StackSlot
slot_of world ty = slot_of_content ty (content_of world ty)

-- ---- storing

-- What may be stored where a slot is wanted: a number where one of its kind is, an int32 where a native int is, too;
-- references of which each type fits; pointers and values of the same type.
abbrev pub may_stand_for : World → StackSlot → StackSlot → Bool
may_stand_for world Int32 Int32 = true
may_stand_for world Int32 NativeInt = true
may_stand_for world Int64 Int64 = true
may_stand_for world NativeInt NativeInt = true
may_stand_for world (Refs types) (Refs wanted) = list_all (all_fit world types) wanted
may_stand_for world (Pointer a) (Pointer b) = same_type a b
may_stand_for world (Value a) (Value b) = same_type a b
may_stand_for world _ _ = false

-- a slot may be stored in a place of a type
abbrev pub may_store : World → StackSlot → Ty → Bool
may_store world slot ty = may_stand_for world slot (slot_of world ty)
