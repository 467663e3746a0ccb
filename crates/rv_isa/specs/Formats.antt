-- The formats of instruction words: RISC-V unprivileged manual, chapter RV32I, "Base Instruction Formats" and
-- "Immediate Encoding Variants".
use Rattle.std.specs.Prelude.{ℕ, ◌+◌, ◌-◌, ◌*◌, ◌/◌, ◌%◌, ◌^◌, ℤ, List, [], ◌∷◌}
use Rattle.num_core.specs.Bits.{twos_complement}

-- a part of a word: how many bits it takes, and the number in them
pub record Field : Type 0 where
  pub width : ℕ
  pub value : ℕ

abbrev pub field : ℕ → ℕ → Field
field width value = record { width = width; value = value }

-- the number whose bits are those of the fields side by side, the first field in the lowest bits
abbrev pub word : List Field → ℕ
word [] = 0
word (f ∷ fields) = f.value + 2 ^ f.width * word fields

-- the field of the bits from high down to low of a number, which the manual writes imm[high:low]
abbrev pub bits : ℕ → ℕ → ℕ → Field
bits n high low = field (high + 1 - low) (n / 2 ^ low % 2 ^ (high + 1 - low))

abbrev pub r_format : ℕ → ℕ → ℕ → ℕ → ℕ → ℕ → ℕ
r_format opcode funct3 funct7 rd rs1 rs2 =
    word (field 7 opcode ∷ field 5 rd ∷ field 3 funct3 ∷ field 5 rs1 ∷ field 5 rs2 ∷ field 7 funct7 ∷ [])

abbrev pub i_format : ℕ → ℕ → ℕ → ℕ → ℤ → ℕ
i_format opcode funct3 rd rs1 imm =
    word (field 7 opcode ∷ field 5 rd ∷ field 3 funct3 ∷ field 5 rs1 ∷ field 12 (twos_complement 12 imm) ∷ [])

abbrev pub s_format : ℕ → ℕ → ℕ → ℕ → ℤ → ℕ
s_format opcode funct3 rs1 rs2 imm =
    let n = twos_complement 12 imm in
    word (field 7 opcode ∷ bits n 4 0 ∷ field 3 funct3 ∷ field 5 rs1 ∷ field 5 rs2 ∷ bits n 11 5 ∷ [])

abbrev pub b_format : ℕ → ℕ → ℕ → ℕ → ℤ → ℕ
b_format opcode funct3 rs1 rs2 imm =
    let n = twos_complement 13 imm in
    word (field 7 opcode ∷ bits n 11 11 ∷ bits n 4 1 ∷ field 3 funct3 ∷ field 5 rs1 ∷ field 5 rs2
    ∷ bits n 10 5 ∷ bits n 12 12 ∷ [])

-- imm is the upper 20 bits of a number whose lower 12 are 0
abbrev pub u_format : ℕ → ℕ → ℕ → ℕ
u_format opcode rd imm = word (field 7 opcode ∷ field 5 rd ∷ field 20 imm ∷ [])

abbrev pub j_format : ℕ → ℕ → ℤ → ℕ
j_format opcode rd imm =
    let n = twos_complement 21 imm in
    word (field 7 opcode ∷ field 5 rd ∷ bits n 19 12 ∷ bits n 11 11 ∷ bits n 10 1 ∷ bits n 20 20 ∷ [])

-- the I format with a shift amount of six bits, and the six bits above it
abbrev pub shift_format : ℕ → ℕ → ℕ → ℕ → ℕ → ℕ → ℕ
shift_format opcode funct3 upper rd rs1 shamt =
    word (field 7 opcode ∷ field 5 rd ∷ field 3 funct3 ∷ field 5 rs1 ∷ field 6 shamt ∷ field 6 upper ∷ [])
