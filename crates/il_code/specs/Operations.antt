-- What instructions do, whichever of their forms they have: ECMA-335 III.3.
use Rattle.std.specs.Prelude.{ℕ, ◌^◌, ℤ, pos, negsuc, nat_lt, if◌then◌else◌, Option, Some, None}
use Rattle.std.specs.Option.{option_map}
use Rattle.il_code.specs.declared.body.Operand.{Operand}
use Rattle.il_code.specs.declared.body.Operand.TheVariants.{Number, Target}
use Rattle.il_code.specs.declared.opcode.Op.{Op}
use Rattle.il_code.specs.declared.operation.Operation.{Operation}
use Rattle.il_code.specs.declared.operation.Operation.TheVariants.{NoOperation, Constant, Duplicate, Discard, Binary}
use Rattle.il_code.specs.declared.operation.Operation.TheVariants.{Branch, BranchIfTrue, Return}
use Rattle.il_code.specs.declared.operation.BinaryOperation.{BinaryOperation}

-- a number that an int32 can be
abbrev pub int32 : ℤ → Option ℤ
int32 (pos n) = if nat_lt n (2 ^ 31) then Some (pos n) else None
int32 (negsuc n) = if nat_lt n (2 ^ 31) then Some (negsuc n) else None

-- the load of the constant that stands as the operand
abbrev pub constant : Operand → Option Operation
constant (Number n) = option_map Constant (int32 n)
constant _ = None

-- the offset that stands as the operand
abbrev pub target : Operand → Option ℕ
target (Target offset) = Some offset
target _ = None

abbrev pub operation_of : Op → Operand → Option Operation
operation_of Op.Nop _ = Some NoOperation
operation_of Op.LdcI4M1 _ = Some (Constant (negsuc 0))
operation_of Op.LdcI4_0 _ = Some (Constant (pos 0))
operation_of Op.LdcI4_1 _ = Some (Constant (pos 1))
operation_of Op.LdcI4_2 _ = Some (Constant (pos 2))
operation_of Op.LdcI4_3 _ = Some (Constant (pos 3))
operation_of Op.LdcI4_4 _ = Some (Constant (pos 4))
operation_of Op.LdcI4_5 _ = Some (Constant (pos 5))
operation_of Op.LdcI4_6 _ = Some (Constant (pos 6))
operation_of Op.LdcI4_7 _ = Some (Constant (pos 7))
operation_of Op.LdcI4_8 _ = Some (Constant (pos 8))
operation_of Op.LdcI4S operand = constant operand
operation_of Op.LdcI4 operand = constant operand
operation_of Op.Dup _ = Some Duplicate
operation_of Op.Pop _ = Some Discard
operation_of Op.Ret _ = Some Return
operation_of Op.BrS operand = option_map Branch (target operand)
operation_of Op.Br operand = option_map Branch (target operand)
operation_of Op.BrtrueS operand = option_map BranchIfTrue (target operand)
operation_of Op.Brtrue operand = option_map BranchIfTrue (target operand)
operation_of Op.Add _ = Some (Binary BinaryOperation.Add)
operation_of Op.Sub _ = Some (Binary BinaryOperation.Subtract)
operation_of Op.Mul _ = Some (Binary BinaryOperation.Multiply)
operation_of _ _ = None
