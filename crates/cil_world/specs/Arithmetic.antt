-- Arithmetic and conversion: ECMA-335 III.1.5, III.3. A native int has 64 bits, and an int32 that meets one is
-- extended with its sign.
use Rattle.std.specs.Prelude.{ℕ, ℤ, pos, negsuc, ◌+ℤ◌, ◌-ℤ◌, ◌*ℤ◌, int_div, int_rem, ◌==◌, ◌&&◌, Bool, true, false}
use Rattle.std.specs.Prelude.{if◌then◌else◌, bit_and, bit_or, bit_xor, List, [], ◌∷◌, Option, Some, None}
use Rattle.std.specs.Prelude.{Result, Ok, Err}
use Rattle.std.specs.Int.{w64, cast_unsigned, cast_signed}
use Rattle.num_core.specs.declared.kind.Kind.{Kind}
use Rattle.num_core.specs.declared.kind.Kind.TheVariants.{I4, U4, I8, U8}
use Rattle.num_core.specs.declared.kind.Narrow.{Narrow}
use Rattle.num_core.specs.declared.kind.ShiftOp.{ShiftOp}
use Rattle.num_core.specs.Integers.{number, held, checked, is_signed, width, least, reading, in_range_of_type}
use Rattle.num_core.specs.Integers.{kind_of_type, converted, shift_amount, shifted}
use Rattle.il_verify.specs.Actions.{Sign, Signed, Unsigned, Integer, Sized, Native, Range, Wraps, Refuses, Combining}
use Rattle.il_verify.specs.Actions.{Add, Subtract, Multiply, Divide, Remainder, And, Or, Xor, NumberAction, Combine}
use Rattle.il_verify.specs.Actions.{Shift, Negate, Complement, Convert, ConvertChecked}
use Rattle.il_verify.specs.Raises.{Raised, Overflow, DivideByZero}
use Rattle.cil_world.specs.Values.{Value, Int32, Int64, NativeInt}

-- ---- kinds

abbrev pub with_sign : Sign → Kind → Kind
with_sign Signed I4 = I4
with_sign Signed U4 = I4
with_sign Signed I8 = I8
with_sign Signed U8 = I8
with_sign Unsigned I4 = U4
with_sign Unsigned U4 = U4
with_sign Unsigned I8 = U8
with_sign Unsigned U8 = U8

-- a number of the stack: how many bits it has, whether it is a native int, and the value that it holds
pub record Held : Type 0 where
  pub kind : Kind
  pub native : Bool
  pub value : ℤ

abbrev pub held_by : Value → Option Held
held_by (Int32 n) = Some (record { kind = I4; native = false; value = n })
held_by (Int64 n) = Some (record { kind = I8; native = false; value = n })
held_by (NativeInt n) = Some (record { kind = I8; native = true; value = n })
held_by _ = None

-- the number of a kind that holds a value
abbrev pub value_of : Kind → Bool → ℤ → Value
value_of kind true n = NativeInt n
value_of I4 false n = Int32 n
value_of U4 false n = Int32 n
value_of I8 false n = Int64 n
value_of U8 false n = Int64 n

-- two numbers of one kind: an int32 that meets a native int becomes one
pub record Pair : Type 0 where
  pub kind : Kind
  pub native : Bool
  pub first : ℤ
  pub second : ℤ

abbrev pub pair_of : Value → Value → Option Pair
pair_of (Int32 a) (Int32 b) = Some (record { kind = I4; native = false; first = a; second = b })
pair_of (Int64 a) (Int64 b) = Some (record { kind = I8; native = false; first = a; second = b })
pair_of (NativeInt a) (NativeInt b) = Some (record { kind = I8; native = true; first = a; second = b })
pair_of (Int32 a) (NativeInt b) = Some (record { kind = I8; native = true; first = a; second = b })
pair_of (NativeInt a) (Int32 b) = Some (record { kind = I8; native = true; first = a; second = b })
pair_of _ _ = None

-- ---- results

abbrev pub or_overflow : Option ℤ → Result ℤ Raised
or_overflow (Some n) = Ok n
or_overflow None = Err Overflow

-- a whole number as the kind keeps it: wrapped, or refused out of range
abbrev pub in_range_or : Range → Kind → (Kind → ℤ) → Result ℤ Raised
in_range_or Wraps kind result = Ok (held kind (result kind))
in_range_or (Refuses sign) kind result = or_overflow (checked (with_sign sign kind) (result (with_sign sign kind)))

abbrev pub is_zero : ℤ → Bool
is_zero (pos n) = n == 0
is_zero (negsuc n) = false

abbrev pub same_integer : ℤ → ℤ → Bool
same_integer (pos a) (pos b) = a == b
same_integer (negsuc a) (negsuc b) = a == b
same_integer _ _ = false

-- the least value by -1, whose quotient is out of range: then the remainder is refused, too
abbrev pub is_least_by_minus_one : Kind → ℤ → ℤ → Bool
is_least_by_minus_one kind a b =
    is_signed kind && same_integer a (least true (width kind)) && same_integer b (negsuc 0)

abbrev pub divided : (ℤ → ℤ → ℤ) → Kind → ℤ → ℤ → Result ℤ Raised
divided result kind a b =
    if is_zero b then Err DivideByZero
    else if is_least_by_minus_one kind a b then Err Overflow
    else Ok (held kind (result (number kind a) (number kind b)))

-- an operation on the bits of two numbers
abbrev pub on_bits : (ℕ → ℕ → ℕ) → Kind → ℤ → ℤ → ℤ
on_bits result kind a b = held kind (cast_signed w64 (result (cast_unsigned w64 a) (cast_unsigned w64 b)))

abbrev pub combined : Combining → Kind → ℤ → ℤ → Result ℤ Raised
combined (Add range) kind a b = in_range_or range kind (λ k. number k a +ℤ number k b)
combined (Subtract range) kind a b = in_range_or range kind (λ k. number k a -ℤ number k b)
combined (Multiply range) kind a b = in_range_or range kind (λ k. number k a *ℤ number k b)
combined (Divide sign) kind a b = divided int_div (with_sign sign kind) a b
combined (Remainder sign) kind a b = divided int_rem (with_sign sign kind) a b
combined And kind a b = Ok (on_bits bit_and kind a b)
combined Or kind a b = Ok (on_bits bit_or kind a b)
combined Xor kind a b = Ok (on_bits bit_xor kind a b)

-- ---- conversions

abbrev pub narrow_of : Integer → Narrow
narrow_of (Sized to) = to
narrow_of (Native Signed) = Narrow.I8
narrow_of (Native Unsigned) = Narrow.U8

abbrev pub is_native : Integer → Bool
is_native (Sized to) = false
is_native (Native sign) = true

-- the number of a type as a value
abbrev pub of_type : Integer → ℤ → Value
of_type to n =
    value_of (kind_of_type (narrow_of to)) (is_native to) (held (kind_of_type (narrow_of to)) n)

abbrev pub is_signed_word : Sign → Bool
is_signed_word Signed = true
is_signed_word Unsigned = false

abbrev pub conversion : Integer → Held → Value
conversion to from = of_type to (converted (narrow_of to) from.kind from.value)

-- the number read with a sign or without one, if it is in the type's range
abbrev pub checked_conversion : Sign → Integer → Held → Result Value Raised
checked_conversion sign to from =
    let n : ℤ = reading (is_signed_word sign) (width from.kind) from.value in
    if in_range_of_type (narrow_of to) n then Ok (of_type to n) else Err Overflow

-- ---- what the operations give for operands; nothing for operands that aren't numbers

abbrev pub valued : Pair → Result ℤ Raised → Result Value Raised
valued pair (Ok n) = Ok (value_of pair.kind pair.native n)
valued pair (Err raised) = Err raised

abbrev pub paired : Combining → Option Pair → Option (Result Value Raised)
paired operation None = None
paired operation (Some p) = Some (valued p (combined operation p.kind p.first p.second))

abbrev pub shifted_by : ShiftOp → Option Held → Option Held → Option (Result Value Raised)
shifted_by op (Some number) (Some amount) =
    Some (Ok (value_of number.kind number.native
    (shifted op number.kind number.value (shift_amount number.kind amount.value))))
shifted_by op _ _ = None

abbrev pub on_number : (Held → Result Value Raised) → Option Held → Option (Result Value Raised)
on_number result (Some number) = Some (result number)
on_number result None = None

abbrev pub in_kind : Held → ℤ → Result Value Raised
in_kind from n = Ok (value_of from.kind from.native (held from.kind n))

abbrev pub of_one : List Value → (Value → Option (Result Value Raised)) → Option (Result Value Raised)
of_one (a ∷ []) result = result a
of_one _ result = None

abbrev pub of_two : List Value → (Value → Value → Option (Result Value Raised)) → Option (Result Value Raised)
of_two (a ∷ (b ∷ [])) result = result a b
of_two _ result = None

abbrev pub number_result : NumberAction → List Value → Option (Result Value Raised)
number_result (Combine operation) operands = of_two operands (λ a b. paired operation (pair_of a b))
number_result (Shift op) operands = of_two operands (λ a amount. shifted_by op (held_by a) (held_by amount))
number_result Negate operands =
    of_one operands (λ a. on_number (λ from. in_kind from (pos 0 -ℤ from.value)) (held_by a))
number_result Complement operands =
    of_one operands (λ a. on_number (λ from. in_kind from (negsuc 0 -ℤ from.value)) (held_by a))
number_result (Convert to) operands = of_one operands (λ a. on_number (λ from. Ok (conversion to from)) (held_by a))
number_result (ConvertChecked sign to) operands =
    of_one operands (λ a. on_number (checked_conversion sign to) (held_by a))
