-- What a signature is made of, and which element may stand where: ECMA-335 II.23.1.16 and II.23.2.
use Rattle.std.specs.Prelude.{ℕ, nat_lt, ◌+◌, ◌%◌, ◌==◌, Bool, true, false, if◌then◌else◌, List, [], ◌∷◌, length, drop}
use Rattle.std.specs.Prelude.{Option, Some, None, Result, Ok, Err}
use Rattle.std.specs.List.{list_any}
use Rattle.md_heaps.specs.Heaps.{compressed}
use Rattle.ty_terms.specs.declared.names.TypeId.{TypeId}
use Rattle.ty_terms.specs.declared.ty.Primitive.{Primitive}
use Rattle.md_sigs.specs.declared.element.Element.{Element}
use Rattle.md_sigs.specs.declared.element.Head.{Head}
use Rattle.md_sigs.specs.declared.element.Place.{Place}
use Rattle.md_sigs.specs.declared.element.Stop.{Stop}

-- What is read in front of some bytes: a value and the bytes behind it, or why there is none.
abbrev pub Reading : Type 0 → Type 0
Reading A = Result (A × List ℕ) Stop

-- what was read, and then what is read behind it
abbrev pub and_then : {A B : Type 0} → Reading A → (A → List ℕ → Reading B) → Reading B
and_then (Ok x) next = next x.0 x.1
and_then (Err stop) next = Err stop

-- a reading that goes by the first byte
abbrev pub by_first_byte : {A : Type 0} → (ℕ → List ℕ → Reading A) → List ℕ → Reading A
by_first_byte read [] = Err (Stop.Bad 0)
by_first_byte read (x ∷ rest) = read x rest

-- the bytes from the first on that can't begin or go on with a compressed number
abbrev pub left_of_number : List ℕ → ℕ
left_of_number [] = 0
left_of_number (x ∷ rest) = if nat_lt x 0xE0 then 0 else length rest + 1

abbrev pub numbered : List ℕ → Option (ℕ × ℕ) → Reading ℕ
numbered bytes (Some n) = Ok (n.0, drop n.1 bytes)
numbered bytes None = Err (Stop.Bad (left_of_number bytes))

-- a compressed number (II.23.2)
abbrev pub number_at : List ℕ → Reading ℕ
number_at bytes = numbered bytes (compressed bytes)

-- a compressed number is an index but where it has the tag 3, which names no table
abbrev pub tagged : ℕ → List ℕ → Reading ℕ
tagged n rest = if n % 4 == 3 then Err (Stop.Bad (length rest + 1)) else Ok (n, rest)

-- an index of the tables TypeDef, TypeRef and TypeSpec (II.23.2.8)
abbrev pub index_at : List ℕ → Reading ℕ
index_at bytes = and_then (number_at bytes) tagged

-- what a signature begins with: its kind, and the numbers in front of its types (II.23.2.1 to II.23.2.6, II.23.2.15)
abbrev pub locals_at : List ℕ → Reading Head
locals_at bytes = and_then (number_at bytes) λ n rest. Ok (Head.Locals n, rest)

abbrev pub args_at : List ℕ → Reading Head
args_at bytes = and_then (number_at bytes) λ n rest. Ok (Head.Args n, rest)

abbrev pub method_at : Bool → ℕ → List ℕ → Reading Head
method_at instance generic bytes = and_then (number_at bytes) λ n rest. Ok (Head.Method instance generic n, rest)

abbrev pub generic_method_at : Bool → List ℕ → Reading Head
generic_method_at instance bytes = and_then (number_at bytes) λ n rest. method_at instance n rest

-- by the first byte: FIELD 06, LOCAL_SIG 07, GENRICINST 0A, and the DEFAULT calling convention 00 with HASTHIS 20 and
-- GENERIC 10
unfoldable pub head_behind : ℕ → List ℕ → Reading Head
head_behind x rest =
    if x == 0x06 then Ok (Head.Field, rest)
    else if x == 0x07 then locals_at rest
    else if x == 0x0A then args_at rest
    else if x == 0x00 then method_at false 0 rest
    else if x == 0x20 then method_at true 0 rest
    else if x == 0x10 then generic_method_at false rest
    else if x == 0x30 then generic_method_at true rest
    else Err (Stop.Bad (length rest + 1))

abbrev pub head_at : List ℕ → Reading Head
head_at = by_first_byte head_behind

-- the element types that are a type alone, and may stand wherever one may (II.23.1.16)
unfoldable pub primitive_of : ℕ → Option Primitive
primitive_of x =
    if x == 0x02 then Some Primitive.Boolean
    else if x == 0x03 then Some Primitive.Char
    else if x == 0x04 then Some Primitive.I1
    else if x == 0x05 then Some Primitive.U1
    else if x == 0x06 then Some Primitive.I2
    else if x == 0x07 then Some Primitive.U2
    else if x == 0x08 then Some Primitive.I4
    else if x == 0x09 then Some Primitive.U4
    else if x == 0x0A then Some Primitive.I8
    else if x == 0x0B then Some Primitive.U8
    else if x == 0x0E then Some Primitive.String
    else if x == 0x18 then Some Primitive.I
    else if x == 0x19 then Some Primitive.U
    else if x == 0x1C then Some Primitive.Object
    else None

-- The element types that the standard defines and no type here has: END, R4, R8, PTR, ARRAY, TYPEDBYREF, FNPTR,
-- INTERNAL, MODIFIER, SENTINEL, PINNED and those that only custom attributes have (II.23.1.16).
unfoldable pub outside : List ℕ
outside =
    0x00 ∷ 0x0C ∷ 0x0D ∷ 0x0F ∷ 0x14 ∷ 0x16 ∷ 0x1B ∷ 0x21 ∷ 0x40 ∷ 0x41 ∷ 0x45 ∷ 0x50 ∷ 0x51 ∷ 0x52 ∷ 0x53 ∷ 0x54 ∷ 0x55
    ∷ []

unfoldable pub is_outside : ℕ → Bool
is_outside x = list_any (λ element. element == x) outside

abbrev pub type_id : ℕ → ℕ → TypeId
type_id m row = record { «module» = m; row = row }

-- CLASS and VALUETYPE: a type by its index (II.23.2.12)
abbrev pub class_at : ℕ → List ℕ → Reading Element
class_at m bytes = and_then (index_at bytes) λ row rest. Ok (Element.Named (type_id m row), rest)

-- VAR and MVAR: a variable by its number
abbrev pub var_at : List ℕ → Reading Element
var_at bytes = and_then (number_at bytes) λ n rest. Ok (Element.Var n, rest)

abbrev pub mvar_at : List ℕ → Reading Element
mvar_at bytes = and_then (number_at bytes) λ n rest. Ok (Element.MVar n, rest)

-- CMOD_REQD and CMOD_OPT: a modifier with its type, which is dropped (II.23.2.7)
abbrev pub modifier_at : List ℕ → Reading Element
modifier_at bytes = and_then (index_at bytes) λ row rest. Ok (Element.Modifier, rest)

-- CLASS or VALUETYPE behind GENERICINST
unfoldable pub class_byte : ℕ → List ℕ → Reading ℕ
class_byte x rest =
    if x == 0x11 then Ok (x, rest) else if x == 0x12 then Ok (x, rest) else Err (Stop.Bad (length rest + 1))

-- GENERICINST: CLASS or VALUETYPE, the index of the type and the number of its arguments
unfoldable pub instance_at : ℕ → List ℕ → Reading Element
instance_at m bytes =
    and_then (by_first_byte class_byte bytes) λ _ indexed.
    and_then (index_at indexed) λ row counted.
    and_then (number_at counted) λ n rest. Ok (Element.Instance (type_id m row) n, rest)

-- the elements that may stand at any place for a type and have more behind them
unfoldable pub type_behind : ℕ → ℕ → List ℕ → Reading Element
type_behind m x rest =
    if x == 0x11 then class_at m rest
    else if x == 0x12 then class_at m rest
    else if x == 0x13 then var_at rest
    else if x == 0x15 then instance_at m rest
    else if x == 0x1D then Ok (Element.Vector, rest)
    else if x == 0x1E then mvar_at rest
    else if x == 0x1F then modifier_at rest
    else if x == 0x20 then modifier_at rest
    else if is_outside x then Err (Stop.Outside x)
    else Err (Stop.Bad (length rest + 1))

-- VOID may stand for a result alone, and BYREF in front of a parameter's or a local variable's type alone. At a
-- result BYREF is an element type outside.
unfoldable pub special : ℕ → Place → ℕ → List ℕ → Reading Element
special m Place.Plain x rest = type_behind m x rest
special m Place.Variable x rest = if x == 0x10 then Ok (Element.ByRef, rest) else type_behind m x rest
special m Place.Returned x rest =
    if x == 0x01 then Ok (Element.Primitive Primitive.Void, rest)
    else if x == 0x10 then Err (Stop.Outside x)
    else type_behind m x rest

abbrev pub primitive_or : Option Primitive → List ℕ → Reading Element → Reading Element
primitive_or (Some p) rest other = Ok (Element.Primitive p, rest)
primitive_or None rest other = other

unfoldable pub element_behind : ℕ → Place → ℕ → List ℕ → Reading Element
element_behind m place x rest = primitive_or (primitive_of x) rest (special m place x rest)

-- the element at a place, with the numbers that belong to it
abbrev pub element_at : ℕ → Place → List ℕ → Reading Element
element_at m place = by_first_byte (element_behind m place)
