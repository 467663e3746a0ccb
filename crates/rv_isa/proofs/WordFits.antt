-- The word of a legal instruction has 32 bits.
use Rattle.std.proofs.Common.{ℕ, ◌<◌, ◌^◌, ℤ, arith, lit<}
use Rattle.rv_isa.specs.declared.ins.Ins.{Ins}
use Rattle.rv_isa.specs.Formats.{r_format, i_format, s_format, b_format, u_format, j_format, shift_format}
use Rattle.rv_isa.specs.Instructions.{word_of, IsLegal, AreROperands, AreIOperands, AreSOperands, AreBOperands}
use Rattle.rv_isa.specs.Instructions.{AreUOperands, AreJOperands, AreShiftOperands}
use Rattle.rv_isa.proofs.WordParts.{bits_12, bits_13, bits_21}

r_fits : (opcode funct3 funct7 rd rs1 rs2 : ℕ) → opcode < 128 → funct3 < 8 → funct7 < 128 → AreROperands rd rs1 rs2
    → r_format opcode funct3 funct7 rd rs1 rs2 < 2 ^ 32
r_fits opcode funct3 funct7 rd rs1 rs2 o t s l = omega arith

i_fits : (opcode funct3 rd rs1 : ℕ) (imm : ℤ) → opcode < 128 → funct3 < 8 → AreIOperands rd rs1 imm
    → i_format opcode funct3 rd rs1 imm < 2 ^ 32
i_fits opcode funct3 rd rs1 imm o t l = let b = bits_12 imm l.2 in omega arith

s_fits : (opcode funct3 rs1 rs2 : ℕ) (imm : ℤ) → opcode < 128 → funct3 < 8 → AreSOperands rs1 rs2 imm
    → s_format opcode funct3 rs1 rs2 imm < 2 ^ 32
s_fits opcode funct3 rs1 rs2 imm o t l = let b = bits_12 imm l.2 in omega arith

b_fits : (opcode funct3 rs1 rs2 : ℕ) (imm : ℤ) → opcode < 128 → funct3 < 8 → AreBOperands rs1 rs2 imm
    → b_format opcode funct3 rs1 rs2 imm < 2 ^ 32
b_fits opcode funct3 rs1 rs2 imm o t l = let b = bits_13 imm l.2 in omega arith

u_fits : (opcode rd imm : ℕ) → opcode < 128 → AreUOperands rd imm → u_format opcode rd imm < 2 ^ 32
u_fits opcode rd imm o l = omega arith

j_fits : (opcode rd : ℕ) (imm : ℤ) → opcode < 128 → AreJOperands rd imm → j_format opcode rd imm < 2 ^ 32
j_fits opcode rd imm o l = let b = bits_21 imm l.1 in omega arith

shift_fits : (opcode funct3 upper rd rs1 shamt : ℕ) → opcode < 128 → funct3 < 8 → upper < 64
    → AreShiftOperands rd rs1 shamt → shift_format opcode funct3 upper rd rs1 shamt < 2 ^ 32
shift_fits opcode funct3 upper rd rs1 shamt o t u l = omega arith

pub word_fits : (ins : Ins) → IsLegal ins → word_of ins < 2 ^ 32
word_fits (Ins.Lui rd imm) l = u_fits 0x37 rd imm (lit< tt) l
word_fits (Ins.Auipc rd imm) l = u_fits 0x17 rd imm (lit< tt) l
word_fits (Ins.Jal rd imm) l = j_fits 0x6f rd imm (lit< tt) l
word_fits (Ins.Jalr rd rs1 imm) l = i_fits 0x67 0 rd rs1 imm (lit< tt) (lit< tt) l
word_fits (Ins.Beq rs1 rs2 imm) l = b_fits 0x63 0 rs1 rs2 imm (lit< tt) (lit< tt) l
word_fits (Ins.Bne rs1 rs2 imm) l = b_fits 0x63 1 rs1 rs2 imm (lit< tt) (lit< tt) l
word_fits (Ins.Blt rs1 rs2 imm) l = b_fits 0x63 4 rs1 rs2 imm (lit< tt) (lit< tt) l
word_fits (Ins.Bge rs1 rs2 imm) l = b_fits 0x63 5 rs1 rs2 imm (lit< tt) (lit< tt) l
word_fits (Ins.Bltu rs1 rs2 imm) l = b_fits 0x63 6 rs1 rs2 imm (lit< tt) (lit< tt) l
word_fits (Ins.Bgeu rs1 rs2 imm) l = b_fits 0x63 7 rs1 rs2 imm (lit< tt) (lit< tt) l
word_fits (Ins.Lb rd rs1 imm) l = i_fits 0x03 0 rd rs1 imm (lit< tt) (lit< tt) l
word_fits (Ins.Lh rd rs1 imm) l = i_fits 0x03 1 rd rs1 imm (lit< tt) (lit< tt) l
word_fits (Ins.Lw rd rs1 imm) l = i_fits 0x03 2 rd rs1 imm (lit< tt) (lit< tt) l
word_fits (Ins.Ld rd rs1 imm) l = i_fits 0x03 3 rd rs1 imm (lit< tt) (lit< tt) l
word_fits (Ins.Lbu rd rs1 imm) l = i_fits 0x03 4 rd rs1 imm (lit< tt) (lit< tt) l
word_fits (Ins.Lhu rd rs1 imm) l = i_fits 0x03 5 rd rs1 imm (lit< tt) (lit< tt) l
word_fits (Ins.Lwu rd rs1 imm) l = i_fits 0x03 6 rd rs1 imm (lit< tt) (lit< tt) l
word_fits (Ins.Sb rs1 rs2 imm) l = s_fits 0x23 0 rs1 rs2 imm (lit< tt) (lit< tt) l
word_fits (Ins.Sh rs1 rs2 imm) l = s_fits 0x23 1 rs1 rs2 imm (lit< tt) (lit< tt) l
word_fits (Ins.Sw rs1 rs2 imm) l = s_fits 0x23 2 rs1 rs2 imm (lit< tt) (lit< tt) l
word_fits (Ins.Sd rs1 rs2 imm) l = s_fits 0x23 3 rs1 rs2 imm (lit< tt) (lit< tt) l
word_fits (Ins.Addi rd rs1 imm) l = i_fits 0x13 0 rd rs1 imm (lit< tt) (lit< tt) l
word_fits (Ins.Slti rd rs1 imm) l = i_fits 0x13 2 rd rs1 imm (lit< tt) (lit< tt) l
word_fits (Ins.Sltiu rd rs1 imm) l = i_fits 0x13 3 rd rs1 imm (lit< tt) (lit< tt) l
word_fits (Ins.Xori rd rs1 imm) l = i_fits 0x13 4 rd rs1 imm (lit< tt) (lit< tt) l
word_fits (Ins.Ori rd rs1 imm) l = i_fits 0x13 6 rd rs1 imm (lit< tt) (lit< tt) l
word_fits (Ins.Andi rd rs1 imm) l = i_fits 0x13 7 rd rs1 imm (lit< tt) (lit< tt) l
word_fits (Ins.Slli rd rs1 shamt) l = shift_fits 0x13 1 0 rd rs1 shamt (lit< tt) (lit< tt) (lit< tt) l
word_fits (Ins.Srli rd rs1 shamt) l = shift_fits 0x13 5 0 rd rs1 shamt (lit< tt) (lit< tt) (lit< tt) l
word_fits (Ins.Srai rd rs1 shamt) l = shift_fits 0x13 5 16 rd rs1 shamt (lit< tt) (lit< tt) (lit< tt) l
word_fits (Ins.Addiw rd rs1 imm) l = i_fits 0x1b 0 rd rs1 imm (lit< tt) (lit< tt) l
word_fits (Ins.Slliw rd rs1 shamt) l = r_fits 0x1b 1 0 rd rs1 shamt (lit< tt) (lit< tt) (lit< tt) l
word_fits (Ins.Srliw rd rs1 shamt) l = r_fits 0x1b 5 0 rd rs1 shamt (lit< tt) (lit< tt) (lit< tt) l
word_fits (Ins.Sraiw rd rs1 shamt) l = r_fits 0x1b 5 32 rd rs1 shamt (lit< tt) (lit< tt) (lit< tt) l
word_fits (Ins.Add rd rs1 rs2) l = r_fits 0x33 0 0 rd rs1 rs2 (lit< tt) (lit< tt) (lit< tt) l
word_fits (Ins.Sll rd rs1 rs2) l = r_fits 0x33 1 0 rd rs1 rs2 (lit< tt) (lit< tt) (lit< tt) l
word_fits (Ins.Slt rd rs1 rs2) l = r_fits 0x33 2 0 rd rs1 rs2 (lit< tt) (lit< tt) (lit< tt) l
word_fits (Ins.Sltu rd rs1 rs2) l = r_fits 0x33 3 0 rd rs1 rs2 (lit< tt) (lit< tt) (lit< tt) l
word_fits (Ins.Xor rd rs1 rs2) l = r_fits 0x33 4 0 rd rs1 rs2 (lit< tt) (lit< tt) (lit< tt) l
word_fits (Ins.Srl rd rs1 rs2) l = r_fits 0x33 5 0 rd rs1 rs2 (lit< tt) (lit< tt) (lit< tt) l
word_fits (Ins.Or rd rs1 rs2) l = r_fits 0x33 6 0 rd rs1 rs2 (lit< tt) (lit< tt) (lit< tt) l
word_fits (Ins.And rd rs1 rs2) l = r_fits 0x33 7 0 rd rs1 rs2 (lit< tt) (lit< tt) (lit< tt) l
word_fits (Ins.Sub rd rs1 rs2) l = r_fits 0x33 0 32 rd rs1 rs2 (lit< tt) (lit< tt) (lit< tt) l
word_fits (Ins.Sra rd rs1 rs2) l = r_fits 0x33 5 32 rd rs1 rs2 (lit< tt) (lit< tt) (lit< tt) l
word_fits (Ins.Mul rd rs1 rs2) l = r_fits 0x33 0 1 rd rs1 rs2 (lit< tt) (lit< tt) (lit< tt) l
word_fits (Ins.Mulh rd rs1 rs2) l = r_fits 0x33 1 1 rd rs1 rs2 (lit< tt) (lit< tt) (lit< tt) l
word_fits (Ins.Mulhsu rd rs1 rs2) l = r_fits 0x33 2 1 rd rs1 rs2 (lit< tt) (lit< tt) (lit< tt) l
word_fits (Ins.Mulhu rd rs1 rs2) l = r_fits 0x33 3 1 rd rs1 rs2 (lit< tt) (lit< tt) (lit< tt) l
word_fits (Ins.Div rd rs1 rs2) l = r_fits 0x33 4 1 rd rs1 rs2 (lit< tt) (lit< tt) (lit< tt) l
word_fits (Ins.Divu rd rs1 rs2) l = r_fits 0x33 5 1 rd rs1 rs2 (lit< tt) (lit< tt) (lit< tt) l
word_fits (Ins.Rem rd rs1 rs2) l = r_fits 0x33 6 1 rd rs1 rs2 (lit< tt) (lit< tt) (lit< tt) l
word_fits (Ins.Remu rd rs1 rs2) l = r_fits 0x33 7 1 rd rs1 rs2 (lit< tt) (lit< tt) (lit< tt) l
word_fits (Ins.Addw rd rs1 rs2) l = r_fits 0x3b 0 0 rd rs1 rs2 (lit< tt) (lit< tt) (lit< tt) l
word_fits (Ins.Sllw rd rs1 rs2) l = r_fits 0x3b 1 0 rd rs1 rs2 (lit< tt) (lit< tt) (lit< tt) l
word_fits (Ins.Srlw rd rs1 rs2) l = r_fits 0x3b 5 0 rd rs1 rs2 (lit< tt) (lit< tt) (lit< tt) l
word_fits (Ins.Subw rd rs1 rs2) l = r_fits 0x3b 0 32 rd rs1 rs2 (lit< tt) (lit< tt) (lit< tt) l
word_fits (Ins.Sraw rd rs1 rs2) l = r_fits 0x3b 5 32 rd rs1 rs2 (lit< tt) (lit< tt) (lit< tt) l
word_fits (Ins.Mulw rd rs1 rs2) l = r_fits 0x3b 0 1 rd rs1 rs2 (lit< tt) (lit< tt) (lit< tt) l
word_fits (Ins.Divw rd rs1 rs2) l = r_fits 0x3b 4 1 rd rs1 rs2 (lit< tt) (lit< tt) (lit< tt) l
word_fits (Ins.Divuw rd rs1 rs2) l = r_fits 0x3b 5 1 rd rs1 rs2 (lit< tt) (lit< tt) (lit< tt) l
word_fits (Ins.Remw rd rs1 rs2) l = r_fits 0x3b 6 1 rd rs1 rs2 (lit< tt) (lit< tt) (lit< tt) l
word_fits (Ins.Remuw rd rs1 rs2) l = r_fits 0x3b 7 1 rd rs1 rs2 (lit< tt) (lit< tt) (lit< tt) l
word_fits Ins.Ecall l = lit< tt
