-- The instructions that compute. Words of four bytes are held with their sign extended, and the instructions of 32 bits
-- keep that.
use Rattle.std.specs.Prelude.{ℕ, ◌+◌, Bool, true, false, if◌then◌else◌, ◌^◌, pos, negsuc, List, [], ◌∷◌, ◌++◌}
use Rattle.num_core.specs.Integers.{is_signed}
use Rattle.num_core.specs.declared.kind.Kind.{Kind}
use Rattle.num_core.specs.declared.kind.Kind.TheVariants.{I4, U4, I8, U8}
use Rattle.num_core.specs.declared.kind.Narrow.{Narrow}
use Rattle.num_core.specs.declared.kind.Narrow.TheVariants as narrow
use Rattle.num_core.specs.declared.kind.ShiftOp.{ShiftOp}
use Rattle.num_core.specs.declared.kind.ShiftOp.TheVariants.{Left, Right, RightUnsigned}
use Rattle.rv_isa.specs.declared.ins.Ins.{Ins}
use Rattle.lir_core.specs.declared.op.BinaryOperation.{BinaryOperation}
use Rattle.lir_core.specs.declared.op.CheckedOperation.{CheckedOperation}
use Rattle.lir_core.specs.declared.op.DivisionPart.{DivisionPart}
use Rattle.lir_core.specs.declared.op.DivisionPart.TheVariants.{Quotient, Remainder}
use Rattle.lir_core.specs.declared.op.Test.{Test}
use Rattle.lir_core.specs.declared.op.UnaryOperation.{UnaryOperation}
use Rattle.lir_core.specs.declared.op.UnaryOperation.TheVariants.{Negate, Complement}
use Rattle.rv_lines.specs.declared.line.Condition.{Condition}
use Rattle.rv_lines.specs.declared.line.Line.{Line}
use Rattle.rv_lines.specs.declared.line.Line.TheVariants.{Single, Branch}

-- whether the kind has four bytes
abbrev pub has_four_bytes : Kind → Bool
has_four_bytes I4 = true
has_four_bytes U4 = true
has_four_bytes I8 = false
has_four_bytes U8 = false

-- ---- wrapped results

abbrev pub combines : BinaryOperation → Kind → ℕ → ℕ → ℕ → Ins
combines BinaryOperation.Add kind r x y = if has_four_bytes kind then Ins.Addw r x y else Ins.Add r x y
combines BinaryOperation.Subtract kind r x y = if has_four_bytes kind then Ins.Subw r x y else Ins.Sub r x y
combines BinaryOperation.Multiply kind r x y = if has_four_bytes kind then Ins.Mulw r x y else Ins.Mul r x y
combines BinaryOperation.And kind r x y = Ins.And r x y
combines BinaryOperation.Or kind r x y = Ins.Or r x y
combines BinaryOperation.ExclusiveOr kind r x y = Ins.Xor r x y

abbrev pub changes : UnaryOperation → Kind → ℕ → ℕ → Ins
changes Negate kind r x = if has_four_bytes kind then Ins.Subw r 0 x else Ins.Sub r 0 x
changes Complement kind r x = Ins.Xori r x (negsuc 0)

abbrev pub shifts : ShiftOp → Kind → ℕ → ℕ → ℕ → Ins
shifts Left kind r x y = if has_four_bytes kind then Ins.Sllw r x y else Ins.Sll r x y
shifts Right kind r x y = if has_four_bytes kind then Ins.Sraw r x y else Ins.Sra r x y
shifts RightUnsigned kind r x y = if has_four_bytes kind then Ins.Srlw r x y else Ins.Srl r x y

-- the low bits, extended by zeros or by their sign, where so many others are moved out
abbrev pub extends_by_zeros : ℕ → ℕ → ℕ → List Line
extends_by_zeros others r x = Single (Ins.Slli r x others) ∷ Single (Ins.Srli r r others) ∷ []

abbrev pub extends_sign : ℕ → ℕ → ℕ → List Line
extends_sign others r x = Single (Ins.Slli r x others) ∷ Single (Ins.Srai r r others) ∷ []

-- the lowest 32 bits with their sign extended, and the same word
abbrev pub narrows_to_32 : ℕ → ℕ → List Line
narrows_to_32 r x = Single (Ins.Addiw r x (pos 0)) ∷ []

abbrev pub keeps : ℕ → ℕ → List Line
keeps r x = Single (Ins.Addi r x (pos 0)) ∷ []

abbrev pub widens_unsigned : Kind → ℕ → ℕ → List Line
widens_unsigned kind r x = if has_four_bytes kind then extends_by_zeros 32 r x else keeps r x

abbrev pub converts : Narrow → Kind → ℕ → ℕ → List Line
converts narrow.I1 kind r x = extends_sign 56 r x
converts narrow.U1 kind r x = extends_by_zeros 56 r x
converts narrow.I2 kind r x = extends_sign 48 r x
converts narrow.U2 kind r x = extends_by_zeros 48 r x
converts narrow.I4 kind r x = narrows_to_32 r x
converts narrow.U4 kind r x = narrows_to_32 r x
converts narrow.I8 kind r x = keeps r x
converts narrow.U8 kind r x = widens_unsigned kind r x

-- an int32 with its sign extended compares as 64 bits do, without a sign too
abbrev pub is_less : Kind → ℕ → ℕ → ℕ → Ins
is_less kind r x y = if is_signed kind then Ins.Slt r x y else Ins.Sltu r x y

abbrev pub compares : Test → Kind → ℕ → ℕ → ℕ → List Line
compares Test.Equal kind r x y = Single (Ins.Xor r x y) ∷ Single (Ins.Sltiu r r (pos 1)) ∷ []
compares Test.NotEqual kind r x y = Single (Ins.Xor r x y) ∷ Single (Ins.Sltu r 0 r) ∷ []
compares Test.Less kind r x y = Single (is_less kind r x y) ∷ []
compares Test.NotLess kind r x y = Single (is_less kind r x y) ∷ Single (Ins.Xori r r (pos 1)) ∷ []

-- the condition of a branch by a test
abbrev pub condition_of : Test → Kind → Condition
condition_of Test.Equal kind = Condition.Equal
condition_of Test.NotEqual kind = Condition.NotEqual
condition_of Test.Less kind = if is_signed kind then Condition.Less else Condition.LessUnsigned
condition_of Test.NotLess kind = if is_signed kind then Condition.NotLess else Condition.NotLessUnsigned

-- ---- results that are refused out of range: x7 gets the result, and nothing else changes before the branch is taken

-- on to a label where two registers differ, and where the first is less without a sign
abbrev pub unless_same : ℕ → ℕ → ℕ → Line
unless_same x y label = Branch Condition.NotEqual x y label

abbrev pub if_less : ℕ → ℕ → ℕ → Line
if_less x y label = Branch Condition.LessUnsigned x y label

abbrev pub adds_checked : Kind → ℕ → ℕ → ℕ → List Line
adds_checked I4 x y overflow =
    Single (Ins.Add 28 x y) ∷ Single (Ins.Addw 7 x y) ∷ unless_same 28 7 overflow ∷ []
adds_checked U4 x y overflow = Single (Ins.Addw 7 x y) ∷ if_less 7 x overflow ∷ []
adds_checked I8 x y overflow =
    Single (Ins.Add 7 x y) ∷ Single (Ins.Slt 28 7 x) ∷ Single (Ins.Slti 29 y (pos 0)) ∷ unless_same 28 29 overflow ∷ []
adds_checked U8 x y overflow = Single (Ins.Add 7 x y) ∷ if_less 7 x overflow ∷ []

abbrev pub subtracts_checked : Kind → ℕ → ℕ → ℕ → List Line
subtracts_checked I4 x y overflow =
    Single (Ins.Sub 28 x y) ∷ Single (Ins.Subw 7 x y) ∷ unless_same 28 7 overflow ∷ []
subtracts_checked U4 x y overflow = Single (Ins.Subw 7 x y) ∷ if_less x y overflow ∷ []
subtracts_checked I8 x y overflow =
    Single (Ins.Sub 7 x y) ∷ Single (Ins.Slt 28 x 7) ∷ Single (Ins.Slti 29 y (pos 0)) ∷ unless_same 28 29 overflow ∷ []
subtracts_checked U8 x y overflow = Single (Ins.Sub 7 x y) ∷ if_less x y overflow ∷ []

abbrev pub multiplies_checked : Kind → ℕ → ℕ → ℕ → List Line
multiplies_checked I4 x y overflow =
    Single (Ins.Mul 28 x y) ∷ Single (Ins.Mulw 7 x y) ∷ unless_same 28 7 overflow ∷ []
multiplies_checked U4 x y overflow =
    Single (Ins.Slli 28 x 32) ∷ Single (Ins.Srli 28 28 32) ∷ Single (Ins.Slli 29 y 32) ∷ Single (Ins.Srli 29 29 32)
    ∷ Single (Ins.Mul 7 28 29) ∷ Single (Ins.Srli 28 7 32) ∷ Single (Ins.Addiw 7 7 (pos 0))
    ∷ unless_same 28 0 overflow ∷ []
multiplies_checked I8 x y overflow =
    Single (Ins.Mulh 28 x y) ∷ Single (Ins.Mul 7 x y) ∷ Single (Ins.Srai 29 7 63) ∷ unless_same 28 29 overflow ∷ []
multiplies_checked U8 x y overflow =
    Single (Ins.Mulhu 28 x y) ∷ Single (Ins.Mul 7 x y) ∷ unless_same 28 0 overflow ∷ []

abbrev pub combines_checked : CheckedOperation → Kind → ℕ → ℕ → ℕ → List Line
combines_checked CheckedOperation.Add kind x y overflow = adds_checked kind x y overflow
combines_checked CheckedOperation.Subtract kind x y overflow = subtracts_checked kind x y overflow
combines_checked CheckedOperation.Multiply kind x y overflow = multiplies_checked kind x y overflow

-- How a conversion that may refuse goes: the number is that of the word, which is held in x7 as it is or with 32 bits'
-- sign, and is in range always, or where its sign isn't set, or where x7 gets it back from its low bits.
abbrev pub if_negative : ℕ → ℕ → Line
if_negative x label = Branch Condition.Less x 0 label

abbrev pub keeps_unsigned : ℕ → ℕ → List Line
keeps_unsigned x overflow = if_negative x overflow ∷ keeps 7 x

abbrev pub keeps_low : ℕ → ℕ → ℕ → List Line
keeps_low others x overflow = extends_by_zeros others 7 x ++ unless_same 7 x overflow ∷ []

abbrev pub keeps_low_signed : ℕ → ℕ → ℕ → List Line
keeps_low_signed others x overflow = extends_sign others 7 x ++ unless_same 7 x overflow ∷ []

-- to a type of fewer than 32 bits with a sign, by how many bits are none of its own
abbrev pub keeps_short : Kind → ℕ → ℕ → ℕ → List Line
keeps_short kind others x overflow =
    if is_signed kind then keeps_low_signed others x overflow else keeps_low (others + 1) x overflow

abbrev pub converts_to_i4 : Kind → ℕ → ℕ → List Line
converts_to_i4 I4 x overflow = keeps 7 x
converts_to_i4 U4 x overflow = keeps_unsigned x overflow
converts_to_i4 I8 x overflow = keeps_low_signed 32 x overflow
converts_to_i4 U8 x overflow = keeps_low 33 x overflow

abbrev pub converts_to_u4 : Kind → ℕ → ℕ → List Line
converts_to_u4 I4 x overflow = keeps_unsigned x overflow
converts_to_u4 U4 x overflow = keeps 7 x
converts_to_u4 I8 x overflow = keeps_low 32 x overflow ++ narrows_to_32 7 7
converts_to_u4 U8 x overflow = keeps_low 32 x overflow ++ narrows_to_32 7 7

abbrev pub converts_to_i8 : Kind → ℕ → ℕ → List Line
converts_to_i8 I4 x overflow = keeps 7 x
converts_to_i8 U4 x overflow = extends_by_zeros 32 7 x
converts_to_i8 I8 x overflow = keeps 7 x
converts_to_i8 U8 x overflow = keeps_unsigned x overflow

abbrev pub converts_to_u8 : Kind → ℕ → ℕ → List Line
converts_to_u8 I4 x overflow = keeps_unsigned x overflow
converts_to_u8 U4 x overflow = extends_by_zeros 32 7 x
converts_to_u8 I8 x overflow = keeps_unsigned x overflow
converts_to_u8 U8 x overflow = keeps 7 x

abbrev pub converts_checked : Narrow → Kind → ℕ → ℕ → List Line
converts_checked narrow.I1 kind x overflow = keeps_short kind 56 x overflow
converts_checked narrow.U1 kind x overflow = keeps_low 56 x overflow
converts_checked narrow.I2 kind x overflow = keeps_short kind 48 x overflow
converts_checked narrow.U2 kind x overflow = keeps_low 48 x overflow
converts_checked narrow.I4 kind x overflow = converts_to_i4 kind x overflow
converts_checked narrow.U4 kind x overflow = converts_to_u4 kind x overflow
converts_checked narrow.I8 kind x overflow = converts_to_i8 kind x overflow
converts_checked narrow.U8 kind x overflow = converts_to_u8 kind x overflow

-- ---- divisions

-- x28 gets the least number with a sign
abbrev pub gets_least : Kind → List Line
gets_least kind =
    if has_four_bytes kind then Single (Ins.Lui 28 (2 ^ 19)) ∷ []
    else Single (Ins.Addi 28 0 (negsuc 0)) ∷ Single (Ins.Slli 28 28 63) ∷ []

-- on to a label where that is divided by -1: x28 gets 0 there alone
abbrev pub refuses_least : Kind → ℕ → ℕ → ℕ → List Line
refuses_least kind x y overflow =
    if is_signed kind
    then (gets_least kind ++ Single (Ins.Xor 28 28 x) ∷ Single (Ins.Addi 29 y (pos 1)) ∷ Single (Ins.Or 28 28 29)
    ∷ Branch Condition.Equal 28 0 overflow ∷ [])
    else []

abbrev pub divides_by : DivisionPart → Kind → ℕ → ℕ → ℕ → Ins
divides_by Quotient I4 r x y = Ins.Divw r x y
divides_by Quotient U4 r x y = Ins.Divuw r x y
divides_by Quotient I8 r x y = Ins.Div r x y
divides_by Quotient U8 r x y = Ins.Divu r x y
divides_by Remainder I4 r x y = Ins.Remw r x y
divides_by Remainder U4 r x y = Ins.Remuw r x y
divides_by Remainder I8 r x y = Ins.Rem r x y
divides_by Remainder U8 r x y = Ins.Remu r x y

abbrev pub divides : DivisionPart → Kind → ℕ → ℕ → ℕ → ℕ → ℕ → List Line
divides part kind r x y if_zero overflow =
    Branch Condition.Equal y 0 if_zero ∷ (refuses_least kind x y overflow ++ Single (divides_by part kind r x y) ∷ [])
