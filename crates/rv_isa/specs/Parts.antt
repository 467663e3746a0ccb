-- The parts of a word: the fields of the R format, and the immediates of the other formats made of them.
use Rattle.std.specs.Prelude.{ℕ, ◌+◌, ◌*◌, ◌/◌, ◌%◌, ◌<◌, ℤ}
use Rattle.num_core.specs.Bits.{signed}
use Rattle.rv_isa.specs.Formats.{r_format}

pub record Parts : Type 0 where
  pub opcode : ℕ
  pub rd : ℕ
  pub funct3 : ℕ
  pub rs1 : ℕ
  pub rs2 : ℕ
  pub funct7 : ℕ

-- the parts are as wide as their fields
pub record IsParts (f : Parts) : Type 0 where
  pub opcode : f.opcode < 128
  pub rd : f.rd < 32
  pub funct3 : f.funct3 < 8
  pub rs1 : f.rs1 < 32
  pub rs2 : f.rs2 < 32
  pub funct7 : f.funct7 < 128

-- the word of the parts
abbrev pub whole : Parts → ℕ
whole f = r_format f.opcode f.funct3 f.funct7 f.rd f.rs1 f.rs2

abbrev pub parts_of : ℕ → Parts
parts_of w = record {
  opcode = w % 128;
  rd = w / 128 % 32;
  funct3 = w / 4096 % 8;
  rs1 = w / 32768 % 32;
  rs2 = w / 1048576 % 32;
  funct7 = w / 33554432;
}

abbrev pub i_imm_of : Parts → ℤ
i_imm_of f = signed 12 (f.rs2 + 32 * f.funct7)

abbrev pub s_imm_of : Parts → ℤ
s_imm_of f = signed 12 (f.rd + 32 * f.funct7)

abbrev pub b_imm_of : Parts → ℤ
b_imm_of f = signed 13 (2 * (f.rd / 2) + 32 * (f.funct7 % 64) + 2048 * (f.rd % 2) + 4096 * (f.funct7 / 64))

abbrev pub u_imm_of : Parts → ℕ
u_imm_of f = f.funct3 + 8 * f.rs1 + 256 * f.rs2 + 8192 * f.funct7

abbrev pub j_imm_of : Parts → ℤ
j_imm_of f =
    signed 21
    (2 * (f.rs2 / 2) + 32 * (f.funct7 % 64) + 2048 * (f.rs2 % 2) + 4096 * f.funct3 + 32768 * f.rs1
    + 1048576 * (f.funct7 / 64))

abbrev pub shamt_of : Parts → ℕ
shamt_of f = f.rs2 + 32 * (f.funct7 % 2)
