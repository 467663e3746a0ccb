-- The values of CIL programs: ECMA-335 I.8.2, I.12.1, I.12.3.2.1.
use Rattle.std.specs.Prelude.{ℕ, zero, suc, ℤ, List, [], ◌∷◌, Option, Some, None}
use Rattle.std.specs.Option.{option_and_then}
use Rattle.ty_terms.specs.declared.names.FieldName.{FieldName}
use Rattle.ty_terms.specs.declared.names.MethodName.{MethodName}
use Rattle.ty_terms.specs.declared.ty.Ty.{Ty}

-- ---- references

-- An object that no program makes, named by what it is: the one string of these units, the Type of a type, the
-- MethodInfo of a method, or the vector without elements that the entry takes.
pub data ImageObject : Type 0 where
  TextOf : List ℕ → ImageObject
  TypeOf : Ty → ImageObject
  MethodOf : MethodName → ImageObject
  NoWords : ImageObject

-- null, the object that was made as the n-th, from 0, or one of the image
pub data Reference : Type 0 where
  Null : Reference
  Made : ℕ → Reference
  Lying : ImageObject → Reference

-- ---- pointers

-- What a place lies in: an argument, a local, or the value under construction, of a frame counted from the bottom; a
-- field, an element or the boxed value of an object; a static field of a type.
pub data Root : Type 0 where
  ArgumentOf LocalOf : (frame number : ℕ) → Root
  NewValueOf : (frame : ℕ) → Root
  FieldOf ElementOf : (object number : ℕ) → Root
  BoxedIn : (object : ℕ) → Root
  StaticOf : FieldName → Root

-- A place of a type: in a root, the field of a value type, the field of that one, and so on, by their numbers.
pub data Pointer : Type 0 where
  Nowhere : Pointer
  At : Root → (path : List ℕ) → Ty → Pointer

-- ---- values

-- A whole number of the evaluation stack's kinds, a reference, a pointer, a value type's value by its fields, or what
-- the handle of a field holds: which field's bytes it names.
mutual
  pub data Value : Type 0 where
    Int32 Int64 NativeInt : ℤ → Value
    Object : Reference → Value
    Address : Pointer → Value
    Compound : Values → Value
    BytesOf : FieldName → Value

  pub data Values : Type 0 where
    none : Values
    and : Value → Values → Values

abbrev pub values : List Value → Values
values [] = none
values (value ∷ rest) = and value (values rest)

abbrev pub listed : Values → List Value
listed none = []
listed (and value rest) = value ∷ listed rest

-- ---- the fields of values

abbrev pub value_at : Values → ℕ → Option Value
value_at none n = None
value_at (and value rest) zero = Some value
value_at (and value rest) (suc n) = value_at rest n

abbrev pub with_value_at : Values → ℕ → Value → Values
with_value_at none n new = none
with_value_at (and value rest) zero new = and new rest
with_value_at (and value rest) (suc n) new = and value (with_value_at rest n new)

abbrev pub field_in : ℕ → Value → Option Value
field_in n (Compound fields) = value_at fields n
field_in n _ = None

abbrev pub with_field : ℕ → Value → Value → Value
with_field n (Compound fields) new = Compound (with_value_at fields n new)
with_field n value new = value

-- what stands in a value by a path of fields
abbrev pub inside : List ℕ → Value → Option Value
inside [] value = Some value
inside (n ∷ path) value = option_and_then (inside path) (field_in n value)

abbrev pub inner_or : Option Value → Value → Value
inner_or (Some value) other = value
inner_or None other = other

-- the value with another one in that place
abbrev pub with_inside : List ℕ → Value → Value → Value
with_inside [] value new = new
with_inside (n ∷ path) value new = with_field n value (with_inside path (inner_or (field_in n value) value) new)
