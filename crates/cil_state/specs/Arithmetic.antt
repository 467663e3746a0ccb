-- Arithmetic and conversion: ECMA-335 III.1.5 and III.3.
use Rattle.std.specs.Prelude.{ℤ, ◌+ℤ◌, ◌-ℤ◌, ◌*ℤ◌, List, ◌∷◌}
use Rattle.num_core.specs.Integers.{number, held}
use Rattle.num_core.specs.declared.kind.Kind.TheVariants.{I4}
use Rattle.num_core.specs.Run.{Run, Streams}
use Rattle.il_code.specs.declared.body.Instr.{Instr}
use Rattle.il_code.specs.declared.operation.BinaryOperation.{BinaryOperation}
use Rattle.il_code.specs.declared.operation.BinaryOperation.TheVariants.{Add, Subtract, Multiply}
use Rattle.cil_state.specs.State.{CilCause, CilState, Frame, Int32, Slot, goes_on, no_step}

-- `add`, `sub` and `mul` (III.3.1, III.3.64, III.3.48) of whole numbers
abbrev pub result_of : BinaryOperation → ℤ → ℤ → ℤ
result_of Add a b = a +ℤ b
result_of Subtract a b = a -ℤ b
result_of Multiply a b = a *ℤ b

-- the wrapped result of the number below the top and that on top, in their place
abbrev pub combines : BinaryOperation → Instr → List Slot → List Frame → Streams → Run CilState CilCause
combines operation i (Int32 b ∷ Int32 a ∷ stack) below streams =
    goes_on i (Int32 (held I4 (result_of operation (number I4 a) (number I4 b))) ∷ stack) below streams
combines operation i _ below streams = no_step streams
