-- What operations on words give: ECMA-335 III.1.5 and III.3.
use Rattle.std.specs.Prelude.{ℕ, ◌+ℤ◌, ◌-ℤ◌, ◌*ℤ◌, ℤ, pos, negsuc, int_div, int_lt, int_rem, Bool, true, ◌&&◌, not}
use Rattle.std.specs.Prelude.{if◌then◌else◌, Option, Some, None}
use Rattle.std.specs.Int.{int_bit_and, int_bit_or, int_bit_xor, w64}
use Rattle.std.specs.Ordering.{int_eq}
use Rattle.num_core.specs.Bits.{low_bits, signed}
use Rattle.num_core.specs.Integers.{checked, checked_to_type, converted, held, is_signed, kind_of_type, least}
use Rattle.num_core.specs.Integers.{lies_in, number, shift_amount, shifted, width, wrapped_to_type}
use Rattle.num_core.specs.declared.kind.Kind.{Kind}
use Rattle.num_core.specs.declared.kind.Narrow.{Narrow}
use Rattle.num_core.specs.declared.kind.ShiftOp.{ShiftOp}
use Rattle.lir_core.specs.declared.op.BinaryOperation.{BinaryOperation}
use Rattle.lir_core.specs.declared.op.BinaryOperation.TheVariants.{Add, Subtract, Multiply, And, Or, ExclusiveOr}
use Rattle.lir_core.specs.declared.op.CheckedOperation.{CheckedOperation}
use Rattle.lir_core.specs.declared.op.DivisionPart.{DivisionPart}
use Rattle.lir_core.specs.declared.op.DivisionPart.TheVariants.{Quotient, Remainder}
use Rattle.lir_core.specs.declared.op.Test.{Test}
use Rattle.lir_core.specs.declared.op.Test.TheVariants.{Equal, NotEqual, Less, NotLess}
use Rattle.lir_core.specs.declared.op.UnaryOperation.{UnaryOperation}
use Rattle.lir_core.specs.declared.op.UnaryOperation.TheVariants.{Negate, Complement}

-- the word that holds a value of a kind, and the value of the kind that a word holds, if it holds one
abbrev pub word_of : ℤ → ℕ
word_of value = low_bits 64 value

abbrev pub value_of : Kind → ℕ → Option ℤ
value_of kind word = if lies_in true (width kind) (signed 64 word) then Some (signed 64 word) else None

-- of two values, the result being wrapped
abbrev pub combined : BinaryOperation → Kind → ℤ → ℤ → ℤ
combined Add kind a b = held kind (number kind a +ℤ number kind b)
combined Subtract kind a b = held kind (number kind a -ℤ number kind b)
combined Multiply kind a b = held kind (number kind a *ℤ number kind b)
combined And kind a b = int_bit_and w64 a b
combined Or kind a b = int_bit_or w64 a b
combined ExclusiveOr kind a b = int_bit_xor w64 a b

-- of one value
abbrev pub changed : UnaryOperation → Kind → ℤ → ℤ
changed Negate kind a = held kind (pos 0 -ℤ a)
changed Complement kind a = held kind (negsuc 0 -ℤ a)

-- of two values, where the result is in range
abbrev pub combined_in_range : CheckedOperation → Kind → ℤ → ℤ → Option ℤ
combined_in_range CheckedOperation.Add kind a b = checked kind (number kind a +ℤ number kind b)
combined_in_range CheckedOperation.Subtract kind a b = checked kind (number kind a -ℤ number kind b)
combined_in_range CheckedOperation.Multiply kind a b = checked kind (number kind a *ℤ number kind b)

abbrev pub divided : DivisionPart → Kind → ℤ → ℤ → ℤ
divided Quotient kind a b = held kind (int_div (number kind a) (number kind b))
divided Remainder kind a b = held kind (int_rem (number kind a) (number kind b))

-- the one division whose quotient is out of range
abbrev pub is_least_by_minus_one : Kind → ℤ → ℤ → Bool
is_least_by_minus_one kind a b = is_signed kind && (int_eq a (least true (width kind)) && int_eq b (negsuc 0))

-- whether a test holds of two values
abbrev pub holds_of : Test → Kind → ℤ → ℤ → Bool
holds_of Equal kind a b = int_eq a b
holds_of NotEqual kind a b = not (int_eq a b)
holds_of Less kind a b = int_lt (number kind a) (number kind b)
holds_of NotLess kind a b = not (int_lt (number kind a) (number kind b))

-- the value that a number of a type in memory is widened to, from its bits
abbrev pub widened : Narrow → ℕ → ℤ
widened narrow n = held (kind_of_type narrow) (wrapped_to_type narrow (pos n))

-- the value that a conversion gives which refuses nothing
abbrev pub value_converted : Narrow → Kind → ℤ → ℤ
value_converted narrow from a = held (kind_of_type narrow) (converted narrow from a)

-- and that which one gives that may refuse
abbrev pub value_in_range : Narrow → Kind → ℤ → Option ℤ
value_in_range narrow from a = checked_to_type narrow (number from a)

-- the value moved by the low bits of the amount
abbrev pub value_shifted : ShiftOp → Kind → ℤ → ℤ → ℤ
value_shifted operation kind a amount = shifted operation kind a (shift_amount kind amount)
