-- The instructions of code: ECMA-335 III.1.2.
use Rattle.std.specs.Prelude.{ℕ, zero, suc, ◌+◌, ◌*◌, ◌^◌, ◌-◌, min, ℤ, pos, negsuc, ◌+ℤ◌, ◌==◌, nat_lt, if◌then◌else◌}
use Rattle.std.specs.Prelude.{List, [], ◌∷◌, length, drop, slice_index, find, Option, Some, None}
use Rattle.std.specs.Int.{cast_signed, w8}
use Rattle.std.specs.Option.{option_map}
use Rattle.byteorder.specs.Endian.{little_number, twos_complement}
use Rattle.il_code.specs.declared.opcode.Op.{Op}
use Rattle.il_code.specs.declared.opcode.OperandForm.{OperandForm}
use Rattle.il_code.specs.declared.opcode.OperandForm.TheVariants.{Absent, Unsigned8, Unsigned16, Signed8, Signed32}
use Rattle.il_code.specs.declared.opcode.OperandForm.TheVariants.{Signed64, Token as TokenForm, Target8, Target32}
use Rattle.il_code.specs.declared.opcode.OperandForm.TheVariants.{Targets as TargetsForm}
use Rattle.il_code.specs.declared.body.Instr.{Instr}
use Rattle.il_code.specs.declared.body.Operand.{Operand}
use Rattle.il_code.specs.declared.body.Operand.TheVariants.{Nothing, Number, Token, Target, Targets}
use Rattle.il_code.specs.Opcodes.{opcodes}

-- the opcode of a number in a table, and the form of its operand
abbrev pub row_in : List (ℕ × Op × OperandForm) → ℕ → Option (Op × OperandForm)
row_in rows code = option_map (λ row. (row.1, row.2)) (find (λ row. row.0 == code) rows)

unfoldable pub opcode_row : ℕ → Option (Op × OperandForm)
opcode_row code = row_in opcodes code

-- The number of the opcode at the front of the bytes, and how many bytes it takes: one, or two where the first is
-- 0xFE.
abbrev pub prefixed : List ℕ → Option (ℕ × ℕ)
prefixed [] = None
prefixed (second ∷ rest) = Some (0xFE00 + second, 2)

abbrev pub opcode_number : List ℕ → Option (ℕ × ℕ)
opcode_number [] = None
opcode_number (first ∷ rest) = if first == 0xFE then prefixed rest else Some (first, 1)

-- an offset of code, or 2 ^ 32 - 1 for what lies before it or past that number: there no instruction stands
abbrev pub offset_of : ℤ → ℕ
offset_of (pos n) = min n (2 ^ 32 - 1)
offset_of (negsuc n) = 2 ^ 32 - 1

-- the offset at a distance from that of the next instruction
abbrev pub target_of : ℕ → ℤ → ℕ
target_of next distance = offset_of (pos next +ℤ distance)

-- so many targets, each four bytes long
abbrev pub targets_of : ℕ → ℕ → List ℕ → List ℕ
targets_of next zero bytes = []
targets_of next (suc count) bytes =
    target_of next (twos_complement 4 (little_number 4 bytes)) ∷ targets_of next count (drop 4 bytes)

-- how many bytes an operand of a form takes, but for targets
abbrev pub fixed_size : OperandForm → ℕ
fixed_size Absent = 0
fixed_size Unsigned8 = 1
fixed_size Unsigned16 = 2
fixed_size Signed8 = 1
fixed_size Signed32 = 4
fixed_size Signed64 = 8
fixed_size TokenForm = 4
fixed_size Target8 = 1
fixed_size Target32 = 4
fixed_size TargetsForm = 4

-- the operand of a form that these bytes spell, which stand at the offset `at`
abbrev pub fixed_operand : OperandForm → ℕ → List ℕ → Operand
fixed_operand Absent at bytes = Nothing
fixed_operand Unsigned8 at bytes = Number (pos (slice_index bytes 0))
fixed_operand Unsigned16 at bytes = Number (pos (little_number 2 bytes))
fixed_operand Signed8 at bytes = Number (cast_signed w8 (slice_index bytes 0))
fixed_operand Signed32 at bytes = Number (twos_complement 4 (little_number 4 bytes))
fixed_operand Signed64 at bytes = Number (twos_complement 8 (little_number 8 bytes))
fixed_operand TokenForm at bytes = Token (little_number 4 bytes)
fixed_operand Target8 at bytes = Target (target_of (at + 1) (cast_signed w8 (slice_index bytes 0)))
fixed_operand Target32 at bytes = Target (target_of (at + 4) (twos_complement 4 (little_number 4 bytes)))
fixed_operand TargetsForm at bytes = Nothing

abbrev pub of_size : ℕ → List ℕ → Operand → Option (Operand × ℕ)
of_size size bytes operand = if nat_lt (length bytes) size then None else Some (operand, size)

-- the operand that so many targets are, behind their number
abbrev pub with_targets : ℕ → ℕ → List ℕ → Option (Operand × ℕ)
with_targets count at bytes =
    of_size (4 + 4 * count) bytes (Targets (targets_of (at + (4 + 4 * count)) count (drop 4 bytes)))

-- the operand of a form at the front of the bytes, which stand at the offset `at`, and how many of them it takes, if
-- they are there
abbrev pub operand_of : OperandForm → ℕ → List ℕ → Option (Operand × ℕ)
operand_of TargetsForm at bytes =
    if nat_lt (length bytes) 4 then None else with_targets (little_number 4 bytes) at bytes
operand_of form at bytes = of_size (fixed_size form) bytes (fixed_operand form at bytes)

-- the instruction at an offset, of its opcode and the bytes of its operand, which stand at `behind`
abbrev pub with_opcode : ℕ → ℕ → Option (Op × OperandForm) → List ℕ → Option Instr
with_opcode at behind None bytes = None
with_opcode at behind (Some row) bytes =
    option_map (λ operand. record { at = at; next = behind + operand.1; op = row.0; operand = operand.0 })
    (operand_of row.1 behind bytes)

-- the instruction at an offset, where these bytes stand, by the number of its opcode
abbrev pub numbered : ℕ → List ℕ → Option (ℕ × ℕ) → Option Instr
numbered at bytes None = None
numbered at bytes (Some number) = with_opcode at (at + number.1) (opcode_row number.0) (drop number.1 bytes)

-- the instruction that stands whole at an offset of the code
abbrev pub instruction_at : List ℕ → ℕ → Option Instr
instruction_at code at = numbered at (drop at code) (opcode_number (drop at code))
