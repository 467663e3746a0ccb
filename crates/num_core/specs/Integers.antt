-- Integers (ECMA-335 I.12.1 and III.1.5): an operation is that of whole numbers, whose result is then wrapped, or
-- refused where it is out of range.
--     number kind a      the whole number that the held value a stands for
--     held kind z        the value that holds the whole number z, wrapped
--     checked kind z     the same, or None where z is out of the kind's range
use Rattle.std.specs.Prelude.{ℕ, ◌-◌, ◌%◌, ◌^◌, ℤ, pos, negsuc, ◌*ℤ◌, int_le, FitsSigned, Bool, true, false, ◌&&◌}
use Rattle.std.specs.Prelude.{IsTrue, Option, Some, None, if◌then◌else◌, ◌≡◌}
use Rattle.std.specs.Int.{Width, w8, w16, w32, w64, int_wrap, int_rem_euclid, int_div_euclid, cast_unsigned}
use mir.Val.{bits, hbits}
use Rattle.num_core.specs.declared.kind.Kind.{Kind}
use Rattle.num_core.specs.declared.kind.Kind.TheVariants.{I4, U4, I8, U8}
use Rattle.num_core.specs.declared.kind.Narrow.{Narrow}
use Rattle.num_core.specs.declared.kind.ShiftOp.{ShiftOp}
use Rattle.num_core.specs.declared.kind.ShiftOp.TheVariants.{Left, Right, RightUnsigned}

-- ---- a range of whole numbers, with a sign or without one, in a number of bits

-- the least number of the range
abbrev pub least : Bool → Width → ℤ
least true w = negsuc (2 ^ hbits w - 1)
least false w = pos 0

-- the greatest number of the range
abbrev pub greatest : Bool → Width → ℤ
greatest true w = pos (2 ^ hbits w - 1)
greatest false w = pos (2 ^ bits w - 1)

-- z lies in the range
abbrev pub lies_in : Bool → Width → ℤ → Bool
lies_in signed w z = int_le (least signed w) z && int_le z (greatest signed w)

-- how many numbers the range has
abbrev pub modulus : Width → ℤ
modulus w = pos (2 ^ bits w)

-- the number of the range that is congruent to z
abbrev pub wrapped : Bool → Width → ℤ → ℤ
wrapped true w z = int_wrap w z
wrapped false w z = int_rem_euclid z (modulus w)

-- the number that the bits of a stand for
abbrev pub reading : Bool → Width → ℤ → ℤ
reading true w a = a
reading false w a = pos (cast_unsigned w a)

-- ---- the kinds of a stack's numbers

-- whether the kind reads its values with a sign
abbrev pub is_signed : Kind → Bool
is_signed I4 = true
is_signed U4 = false
is_signed I8 = true
is_signed U8 = false

-- in how many bits the kind holds its values
abbrev pub width : Kind → Width
width I4 = w32
width U4 = w32
width I8 = w64
width U8 = w64

-- a value of the kind is held in 64 bits, its own bits being extended by their sign
abbrev pub IsOfKind : Kind → ℤ → Type 0
IsOfKind kind a = FitsSigned (width kind) a

-- the whole number that a value of the kind stands for
abbrev pub number : Kind → ℤ → ℤ
number kind a = reading (is_signed kind) (width kind) a

-- the whole numbers that the kind has values for
abbrev pub in_range : Kind → ℤ → Bool
in_range kind z = lies_in (is_signed kind) (width kind) z

abbrev pub InRange : Kind → ℤ → Type 0
InRange kind z = IsTrue (in_range kind z)

-- the value of the kind that holds a whole number, wrapped
abbrev pub held : Kind → ℤ → ℤ
held kind z = int_wrap (width kind) z

-- the value that holds a whole number, or none where the number is out of range
abbrev pub checked : Kind → ℤ → Option ℤ
checked kind z = if in_range kind z then Some (held kind z) else None

-- the one division whose quotient is out of range
abbrev pub IsLeastByMinusOne : Kind → ℤ → ℤ → Type 0
IsLeastByMinusOne kind a b = IsTrue (is_signed kind) × (a ≡ least true (width kind)) × (b ≡ negsuc 0)

-- ---- shifts

-- the low 5 bits of the amount, or 6 where the kind has 64 bits
abbrev pub shift_amount : Kind → ℤ → ℕ
shift_amount kind amount = cast_unsigned w64 amount % bits (width kind)

-- to the left the number is multiplied by 2 ^ k; to the right it is read as the operation says, and divided, rounded
-- down
abbrev pub shifted : ShiftOp → Kind → ℤ → ℕ → ℤ
shifted Left kind a k = held kind (number kind a *ℤ pos (2 ^ k))
shifted Right kind a k = int_div_euclid a (pos (2 ^ k))
shifted RightUnsigned kind a k = held kind (int_div_euclid (reading false (width kind) a) (pos (2 ^ k)))

-- ---- conversions

-- whether the numbers of the type have a sign
abbrev pub is_signed_type : Narrow → Bool
is_signed_type Narrow.I1 = true
is_signed_type Narrow.U1 = false
is_signed_type Narrow.I2 = true
is_signed_type Narrow.U2 = false
is_signed_type Narrow.I4 = true
is_signed_type Narrow.U4 = false
is_signed_type Narrow.I8 = true
is_signed_type Narrow.U8 = false

-- how many bits the type has
abbrev pub width_of_type : Narrow → Width
width_of_type Narrow.I1 = w8
width_of_type Narrow.U1 = w8
width_of_type Narrow.I2 = w16
width_of_type Narrow.U2 = w16
width_of_type Narrow.I4 = w32
width_of_type Narrow.U4 = w32
width_of_type Narrow.I8 = w64
width_of_type Narrow.U8 = w64

-- the kind in which a number of the type is held
abbrev pub kind_of_type : Narrow → Kind
kind_of_type Narrow.I1 = I4
kind_of_type Narrow.U1 = U4
kind_of_type Narrow.I2 = I4
kind_of_type Narrow.U2 = U4
kind_of_type Narrow.I4 = I4
kind_of_type Narrow.U4 = U4
kind_of_type Narrow.I8 = I8
kind_of_type Narrow.U8 = U8

-- the numbers of the type
abbrev pub in_range_of_type : Narrow → ℤ → Bool
in_range_of_type to z = lies_in (is_signed_type to) (width_of_type to) z

-- the number of the type that is congruent to z
abbrev pub wrapped_to_type : Narrow → ℤ → ℤ
wrapped_to_type to z = wrapped (is_signed_type to) (width_of_type to) z

-- the number of the result of a conversion that refuses nothing: that of the operand, read as the type is, wrapped
abbrev pub converted : Narrow → Kind → ℤ → ℤ
converted to from a = wrapped_to_type to (reading (is_signed_type to) (width from) a)

-- the value that holds a number of the type, or none where the number is out of its range
abbrev pub checked_to_type : Narrow → ℤ → Option ℤ
checked_to_type to z = if in_range_of_type to z then Some (held (kind_of_type to) z) else None
